-- `vertex_at` meets its contract. The loop keeps: what the first t entries add to the low sides.
use Rattle.corners.specs.Vertices.{Rising}
use Rattle.corners.proofs.vertex_at.Given as goal

abbrev pub invariant-loop-t : goal.invariant-loop-t
invariant-loop-t l = Rising l.lows l.side l.entries l.split l.j l.reach l.far l.back l.t l.point
