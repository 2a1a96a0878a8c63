-- `write_weights` meets its contract. The loop keeps: the weights from n on are still to be put.
use Rattle.dimension.specs.Sizes.{axes_of}
use Rattle.queries.specs.Writing.{Writing}
use Rattle.queries.proofs.write_weights.Given as goal

abbrev pub invariant-loop-n : goal.invariant-loop-n
invariant-loop-n l = Writing (axes_of l.fn.dim) l.boxes l.weights l.initial.out l.n l.out
