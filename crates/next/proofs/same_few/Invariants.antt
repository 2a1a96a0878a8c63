-- `same_few` meets its contract. The loop keeps: all are the same exactly where the rest is.
use Rattle.next.specs.Digits.{Comparing}
use Rattle.next.proofs.same_few.Given as goal

abbrev pub invariant-loop-i : goal.invariant-loop-i
invariant-loop-i l = Comparing l.n l.at l.bytes l.boxes l.i l.left
