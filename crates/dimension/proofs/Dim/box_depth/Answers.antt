-- `Dim::box_depth` meets its contract: by the share of an axis of a small depth, by the axes of any other.
use mathlib.Core.Path.{refl}
use native.Mathlib.Omega.{arith}
use Rattle.dimension.specs.Sizes.{box_depth}
use Rattle.dimension.specs.Laws.{axes_range, box_depth_by, share_fits}
use Rattle.dimension.proofs.Dim.box_depth.Goals as goal

pub overflow_mul-result : goal.overflow_mul-result
overflow_mul-result c = let args = c.args in
    record { fits = share_fits _ args.depth c.share.result (axes_range args.self) c.share.ensures.0 c.share.ensures.1 c.if-depth-lt8192.true }

pub returns-then-depth-lt8192 : goal.returns-then-depth-lt8192
returns-then-depth-lt8192 c = let args = c.args in
    box_depth_by _ args.depth c.share.result (axes_range args.self) c.share.ensures.0 c.share.ensures.1 c.if-depth-lt8192.true

pub nonzero_div-result-2 : goal.nonzero_div-result-2
nonzero_div-result-2 c = omega (arith, c.axes.ensures, (axes_range c.args.self).two)

pub returns : goal.returns
returns c = unfold box_depth in rw c.axes.ensures refl
