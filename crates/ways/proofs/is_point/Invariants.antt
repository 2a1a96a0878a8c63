-- `is_point` meets its contract: the coordinates before i are in the cube.
use Rattle.ways.specs.Starts.{Testing}
use Rattle.ways.proofs.is_point.Given as goal

abbrev pub invariant-loop-i : goal.invariant-loop-i
invariant-loop-i l = Testing l.axes l.point l.i
