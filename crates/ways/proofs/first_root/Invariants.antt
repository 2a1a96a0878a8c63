-- `first_root` meets its contract: no root before n contains the point.
use Rattle.dimension.specs.Sizes.{axes_of}
use Rattle.ways.specs.Starts.{Searching}
use Rattle.ways.proofs.first_root.Given as goal

abbrev pub invariant-loop-n : goal.invariant-loop-n
invariant-loop-n l = Searching (axes_of l.dim) l.point l.n
