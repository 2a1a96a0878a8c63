-- `descend` meets its contract: each step goes on the way.
use Rattle.dimension.specs.Sizes.{axes_of}
use Rattle.ways.specs.Descents.{Descending}
use Rattle.ways.proofs.descend.Given as goal

abbrev pub invariant-loop-i : goal.invariant-loop-i
invariant-loop-i l = Descending (axes_of l.dim) l.n l.initial.weights l.weights l.position l.i
