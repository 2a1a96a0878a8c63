-- `in_cell` meets its contract. The loop keeps: the slopes along the first i entries are on their axes, the other axes have +0.0.
use Rattle.slopes.specs.Gathering.{Gathering}
use Rattle.slopes.proofs.in_cell.Given as goal

abbrev pub invariant-loop-i : goal.invariant-loop-i
invariant-loop-i l = Gathering l.code l.bytes l.samples l.d l.side l.entries l.split l.first l.on l.before l.i
