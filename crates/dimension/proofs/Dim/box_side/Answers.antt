-- `Dim::box_side` meets its contract: at most fifteen halvings of a number of sixteen bits.
use native.Mathlib.Omega.{arith}
use Rattle.dimension.specs.Sizes.{axes_of, box_side, side_after, cube_side, halvings}
use Rattle.dimension.specs.Laws.{axes_range, boxes_few}
use Rattle.dimension.proofs.Dim.box_side.Goals as goal

pub overflow_cast-result : goal.overflow_cast-result
overflow_cast-result c = omega (arith, boxes_few (axes_of c.args.self) c.args.depth (axes_range c.args.self) c.requires)

pub overflow_shr-result : goal.overflow_shr-result
overflow_shr-result c = omega (arith, boxes_few (axes_of c.args.self) c.args.depth (axes_range c.args.self) c.requires)

pub returns : goal.returns
returns c = unfold box_side side_after cube_side halvings in simp c.box_depth.ensures
