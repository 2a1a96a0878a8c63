-- `Dim::split_place` meets its contract: the remainder from the quotient.
use native.Mathlib.Omega.{arith}
use Rattle.dimension.specs.Laws.{axes_range, split_fits, split_sub, split_rest, split_is}
use Rattle.dimension.proofs.Dim.split_place.Goals as goal

pub overflow_mul-result : goal.overflow_mul-result
overflow_mul-result c = record { fits = split_fits _ _ _ _ c.axes-axes.ensures c.box_depth.ensures (omega arith) }

pub overflow_sub-result : goal.overflow_sub-result
overflow_sub-result c = split_sub _ _ _ _ c.axes-axes.ensures c.box_depth.ensures

pub overflow_sub-result-2 : goal.overflow_sub-result-2
overflow_sub-result-2 c = split_rest _ _ _ _ (omega (arith, (axes_range c.args.self).two)) c.axes-axes.ensures c.box_depth.ensures

pub returns : goal.returns
returns c = split_is _ _ _ _ c.axes-axes.ensures c.box_depth.ensures
