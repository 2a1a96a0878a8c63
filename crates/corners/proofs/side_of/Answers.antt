-- `side_of` meets its contract: the cube's side, halved once for each orthant.
use Rattle.std.proofs.Common.{refl}
use Rattle.dimension.specs.Sizes.{cube_side, halvings}
use Rattle.corners.specs.Vertices.{frame_boxes, frame_side}
use Rattle.corners.proofs.side_of.Goals as goal

pub overflow_sub-result : goal.overflow_sub-result
unfolding cube_side halvings
overflow_sub-result c = rw c.bytes.ensures.is (frame_boxes _ c.bytes.ensures.passes refl).0

pub overflow_sub-result-2 : goal.overflow_sub-result-2
unfolding cube_side halvings
overflow_sub-result-2 c = rw c.bytes.ensures.is (frame_boxes _ c.bytes.ensures.passes c.axes.ensures).1

pub overflow_shr-result : goal.overflow_shr-result
unfolding cube_side halvings
overflow_shr-result c = rw c.bytes.ensures.is (frame_boxes _ c.bytes.ensures.passes c.axes.ensures).2

pub returns : goal.returns
unfolding cube_side halvings
returns c = rw (c.from.ensures, c.bytes.ensures.is) (frame_side _ c.bytes.ensures.passes c.axes.ensures)
