-- `matches` meets its contract: each way out is a test that the code of the cell or of a first one inside it would pass.
use native.Mathlib.Omega.{arith}
use Rattle.dimension.specs.Laws.{axes_range}
use Rattle.next.specs.Matching.{other_dimension, not_inside, too_deep, no_room, other_entries, other_boxes, length_fits, boxes_within, all_matched}
use borrow.Author.Rules.{rules}
use Rattle.next.proofs.matches.Goals as goal

pub returns-then-from-axes : goal.returns-then-from-axes
returns-then-from-axes c = search (rules, other_dimension)

pub returns-then-depth-next : goal.returns-then-depth-next
returns-then-depth-next c = search (rules, not_inside)

pub returns-then-greatest_depth-depth : goal.returns-then-greatest_depth-depth
returns-then-greatest_depth-depth c = search (rules, too_deep)

pub overflow_add-length-2 : goal.overflow_add-length-2
overflow_add-length-2 c = search (rules, axes_range, length_fits)

pub returns-then-bytes-length : goal.returns-then-bytes-length
returns-then-bytes-length c = search (rules, no_room)

pub returns-then-not-same : goal.returns-then-not-same
returns-then-not-same c = search (rules, other_entries)

pub same_boxes-requires : goal.same_boxes-requires
same_boxes-requires c = (omega (arith, c.if-bytes-length.false), boxes_within c.args.dim c.greatest_depth.ensures c.box_depth-boxes.ensures c.if-greatest_depth-depth.false)

pub returns-then-not-same_boxes : goal.returns-then-not-same_boxes
returns-then-not-same_boxes c = search (rules, other_boxes)

pub returns : goal.returns
returns c = search (rules, all_matched)
