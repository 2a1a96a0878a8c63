-- `walk` meets its contract. The loop keeps: the steps taken back are the path's end, start is where it leads, and k and
-- boxes are those of the depth.
use Rattle.steps.specs.Climbs.{rise_boxes, rise_place, rise_room, rise_ready}
use Rattle.positions.specs.Walks.{walk_none, walk_next, walk_double}
use borrow.Author.Rules.{rules}
use Rattle.positions.proofs.walk.Goals as goal

pub loop-t-init : goal.loop-t-init
loop-t-init c = search (rules, walk_none)

pub boxes_above-boxes-requires : goal.boxes_above-boxes-requires
boxes_above-boxes-requires c = search (rules, rise_boxes)

pub place_above-k-requires : goal.place_above-k-requires
place_above-k-requires c = search (rules, rise_place)

pub own_of-own-requires : goal.own_of-own-requires
own_of-own-requires c = rise_room c.loop-t.invariant.rising c.loop-t-test.true c.boxes_above-boxes.ensures

pub unstep-back-requires : goal.unstep-back-requires
unstep-back-requires c = rise_ready c.loop-t.invariant.rising c.loop-t-test.true c.place_above-k.ensures

pub overflow_mul-half : goal.overflow_mul-half
overflow_mul-half c = search (rules, walk_double)

pub loop-t-preserved : goal.loop-t-preserved
loop-t-preserved c = walk_next c.loop-t.invariant c.loop-t-test.true c.place_above-k.ensures c.boxes_above-boxes.ensures c.own_of-own.ensures c.unstep-back.ensures c.from.ensures
