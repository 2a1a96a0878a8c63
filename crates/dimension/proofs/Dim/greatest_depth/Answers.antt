-- `Dim::greatest_depth` meets its contract: the product is small, and it is the definition.
use native.Mathlib.Omega.{arith}
use Rattle.dimension.specs.Sizes.{greatest_depth, halvings}
use Rattle.dimension.specs.Laws.{axes_range}
use Rattle.dimension.proofs.Dim.greatest_depth.Goals as goal

pub overflow_mul-result : goal.overflow_mul-result
overflow_mul-result c = omega (arith, (axes_range c.args.self).few)

pub returns : goal.returns
returns c = unfold greatest_depth halvings in simp c.axes.ensures
