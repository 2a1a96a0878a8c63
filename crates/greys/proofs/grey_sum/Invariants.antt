-- `grey_sum` meets its contract. The loop keeps: the first j samples are weighed.
use Rattle.greys.specs.Loops.{Summing}
use Rattle.greys.proofs.grey_sum.Given as goal

abbrev pub invariant-loop-j : goal.invariant-loop-j
invariant-loop-j l = Summing l.width l.weight-items l.samples l.j l.sum
