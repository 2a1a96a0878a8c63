-- `write_cell` meets its contract. The loop keeps: the first j vertices are written, and nothing else.
use Rattle.corners.specs.Drawing.{Drawing}
use Rattle.corners.proofs.write_cell.Given as goal

abbrev pub invariant-loop-j : goal.invariant-loop-j
invariant-loop-j l = Drawing l.code l.d l.lows l.side l.entries l.split l.j l.at l.initial.points l.points
