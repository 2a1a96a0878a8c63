-- `same_boxes` meets its contract. The loop keeps: those before place i are the same.
use Rattle.next.specs.Digits.{SameTo}
use Rattle.next.proofs.same_boxes.Given as goal

abbrev pub invariant-loop-i : goal.invariant-loop-i
invariant-loop-i l = SameTo l.n l.at l.bytes l.boxes l.i
