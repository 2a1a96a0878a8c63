-- `Dim::points_length` meets its contract: the few axes keep the product small.
use mathlib.Core.Path.{◌∙◌, ap}
use native.Mathlib.Omega.{arith}
use Rattle.dimension.specs.Sizes.{points_length}
use Rattle.dimension.specs.Laws.{axes_range, points_is, points_few}
use Rattle.dimension.proofs.Dim.points_length.Goals as goal

pub overflow_mul-result : goal.overflow_mul-result
overflow_mul-result c = omega (arith, (axes_range c.args.self).few)

pub overflow_add-result : goal.overflow_add-result
overflow_add-result c = omega (arith, (axes_range c.args.self).few)

pub overflow_mul-result-2 : goal.overflow_mul-result-2
overflow_mul-result-2 c = omega (arith, points_few c.axes-axes.result (omega (arith, (axes_range c.args.self).few)))

pub returns : goal.returns
returns c = points_is c.axes-axes.result ∙ ap points_length c.axes-axes.ensures
