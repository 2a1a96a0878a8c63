-- `put_good` meets its contract: the dimension, the leaves, and how many they are.
use Rattle.std.proofs.Common.{refl}
use Rattle.sheets.specs.Theorems.FirstRecord.{first_record}
use Rattle.listing.specs.Whole.{first_fits, leaves_fit, last_fits, good_puts}
use Rattle.listing.proofs.put_good.Goals as goal

pub record_parts-first-requires : goal.record_parts-first-requires
record_parts-first-requires c = (first_record c.requires.0).passes

pub put_line-at-requires : goal.put_line-at-requires
put_line-at-requires c = first_fits refl c.requires.0 c.requires.1 c.record_parts-first.ensures c.axes.ensures

pub put_leaves-at-requires : goal.put_leaves-at-requires
put_leaves-at-requires c = (c.requires.0, leaves_fit refl c.requires.0 c.requires.1 c.record_parts-first.ensures c.axes.ensures c.put_line-at.ensures)

pub put_line-requires : goal.put_line-requires
put_line-requires c = last_fits refl c.requires.0 c.requires.1 c.record_parts-first.ensures c.axes.ensures c.put_line-at.ensures c.put_leaves-at.ensures

pub returns : goal.returns
returns c = good_puts refl c.requires.0 c.requires.1 c.record_parts-first.ensures c.axes.ensures c.put_line-at.ensures c.put_leaves-at.ensures c.put_line.ensures
