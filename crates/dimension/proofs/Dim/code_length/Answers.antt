-- `Dim::code_length` meets its contract: half a depth fits beside six.
use native.Mathlib.Omega.{arith}
use Rattle.dimension.specs.Sizes.{axes_of, code_length}
use Rattle.dimension.specs.Laws.{axes_range, box_small}
use Rattle.dimension.proofs.Dim.code_length.Goals as goal

pub overflow_add-result : goal.overflow_add-result
overflow_add-result c = omega (arith, (axes_range c.args.self).few)

pub overflow_add-result-2 : goal.overflow_add-result-2
overflow_add-result-2 c = let args = c.args in
    omega (arith, (axes_range args.self).few, box_small (axes_of args.self) args.depth (axes_range args.self))

pub returns : goal.returns
returns c = unfold code_length in simp (c.axes.ensures, c.box_depth.ensures)
