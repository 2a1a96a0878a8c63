-- `grey` meets its contract: the cube's side is a power of two.
use Rattle.dimension.specs.Sizes.{cube_side, halvings}
use Rattle.greys.specs.Exact.{cube_power}
use Rattle.greys.proofs.grey.Goals as goal

pub fraction-requires : goal.fraction-requires
unfolding cube_side halvings
fraction-requires c = (c.grey_sum.ensures.1, rw c.from.ensures cube_power)

pub returns : goal.returns
unfolding cube_side halvings
returns c = rw (← c.grey_sum.ensures.0, ← c.from.ensures) c.fraction.ensures
