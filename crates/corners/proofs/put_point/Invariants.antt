-- `put_point` meets its contract. The loop keeps: the first n coordinates are put, and `left` has the others.
use Rattle.corners.specs.Drawing.{Coordinates}
use Rattle.corners.proofs.put_point.Given as goal

abbrev pub invariant-loop-n : goal.invariant-loop-n
invariant-loop-n l = Coordinates l.at l.d l.point l.initial.points l.left l.n l.points
