-- `after` meets its contract.
use Rattle.next.specs.Going.{after_short, after_path, after_climb, after_risen, after_over, after_number, after_small, after_boxes, after_turn, after_fill, after_on}
use borrow.Author.Rules.{rules}
use Rattle.next.proofs.after.Goals as goal

pub power-requires : goal.power-requires
power-requires c = search (rules, after_short)

pub overflow_mul-path : goal.overflow_mul-path
overflow_mul-path c = search (rules, after_path)

pub climb-up-requires : goal.climb-up-requires
climb-up-requires c = search (rules, after_climb)

pub returns-then-up-eq0 : goal.returns-then-up-eq0
returns-then-up-eq0 c = search (rules, after_risen, after_over)

pub place_above-place-requires : goal.place_above-place-requires
place_above-place-requires c = after_small (after_risen c.requires.0 c.power.ensures c.entries.ensures c.climb-up.ensures) c.if-up-eq0.false

pub turned_on-turned-requires : goal.turned_on-turned-requires
turned_on-turned-requires c = after_turn (after_risen c.requires.0 c.power.ensures c.entries.ensures c.climb-up.ensures) c.if-up-eq0.false c.axes-axes.ensures c.place_above-place.ensures

pub boxes_above-above-requires : goal.boxes_above-above-requires
boxes_above-above-requires c = after_boxes (after_risen c.requires.0 c.power.ensures c.entries.ensures c.climb-up.ensures) c.if-up-eq0.false c.axes-axes.ensures

pub filled-boxes-requires : goal.filled-boxes-requires
filled-boxes-requires c = after_fill (after_risen c.requires.0 c.power.ensures c.entries.ensures c.climb-up.ensures) c.if-up-eq0.false c.axes-axes.ensures c.place_above-place.ensures c.turned_on-turned.ensures c.own_of.ensures c.boxes_above-above.ensures

pub overflow_add-result : goal.overflow_add-result
overflow_add-result c = record { fits = after_number (after_risen c.requires.0 c.power.ensures c.entries.ensures c.climb-up.ensures) c.if-up-eq0.false }

pub returns : goal.returns
returns c = search (rules, after_risen, after_on)
