-- `write_path` meets its contract. The loop keeps: the rest of the way up gives the root, and the path with the steps already
-- written.
use Rattle.steps.specs.Climbs.{rise_boxes, rise_place, rise_room, rise_ready, rise_next}
use Rattle.steps.specs.Ascents.{path_from, path_entries, path_rises, path_stands}
use borrow.Author.Rules.{rules}
use Rattle.steps.proofs.walks.write_path.Goals as goal

pub word_in-entries-requires : goal.word_in-entries-requires
word_in-entries-requires c = path_entries (path_from c.bytes-bytes.ensures.is c.bytes-bytes.ensures.passes c.dim-dim.ensures c.depth-depth.ensures c.requires) c.axes-axes.ensures

pub loop-t-init : goal.loop-t-init
loop-t-init c = path_rises (path_from c.bytes-bytes.ensures.is c.bytes-bytes.ensures.passes c.dim-dim.ensures c.depth-depth.ensures c.requires) c.axes-axes.ensures c.word_in-entries.ensures c.split_place-k.ensures c.box_depth-boxes.ensures

pub boxes_above-boxes-requires : goal.boxes_above-boxes-requires
boxes_above-boxes-requires c = search (rules, rise_boxes)

pub place_above-k-requires : goal.place_above-k-requires
place_above-k-requires c = search (rules, rise_place)

pub own_of-own-requires : goal.own_of-own-requires
own_of-own-requires c = search (rules, rise_room)

pub unstep-back-requires : goal.unstep-back-requires
unstep-back-requires c = rise_ready c.loop-t.invariant c.loop-t-test.true c.place_above-k.ensures

pub loop-t-preserved : goal.loop-t-preserved
loop-t-preserved c = search (rules, rise_next)

pub returns : goal.returns
returns c =
    let from = path_from c.bytes-bytes.ensures.is c.bytes-bytes.ensures.passes c.dim-dim.ensures c.depth-depth.ensures c.requires in
    rw (← c.dim-dim.ensures, ← c.depth-depth.ensures, ← c.bytes-bytes.ensures.is) (path_stands from c.axes-axes.ensures c.word_in-entries.ensures c.loop-t.invariant c.loop-t-test.false c.from.ensures c.write.ensures)
