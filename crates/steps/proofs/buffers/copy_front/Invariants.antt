-- `copy_front` meets its contract. The loop keeps: the places before i are copied, or all up to the last four.
use Rattle.steps.specs.Copying.{Fronted}
use Rattle.steps.proofs.buffers.copy_front.Given as goal

abbrev pub invariant-loop-i : goal.invariant-loop-i
invariant-loop-i l = Fronted l.code l.initial.out l.last l.i l.out
