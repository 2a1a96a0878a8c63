-- `carry_end` meets its contract: one of the last four stops the carry, or the loop finds the one that does. It keeps: every orthant
-- from t on is passed.
use Rattle.bisection.specs.Codes.{axis, minus}
use Rattle.moves.specs.Carrying.{Running}
use Rattle.moves.proofs.carries.carry_end.Given as goal

abbrev pub invariant-loop-t : goal.invariant-loop-t
invariant-loop-t l = Running (minus l.e) (axis l.e) l.code l.t
