-- `write_child` meets its contract: the copy with one more depth, the entries stepped, and the orthant that they give.
use mathlib.Core.Path.{◌∙◌}
use lib.ListN.{length-set}
use Rattle.steps.specs.Relatives.{child_from, child_front, child_byte, child_entries, child_some, child_few, child_box, child_written}
use borrow.Author.Rules.{rules}
use Rattle.steps.proofs.write_child.Goals as goal

pub entries_of-requires : goal.entries_of-requires
entries_of-requires c = search (rules, child_from, child_entries)

pub overflow_sub-k : goal.overflow_sub-k
overflow_sub-k c = search (rules, child_from, child_some)

pub step-next-requires : goal.step-next-requires
step-next-requires c = search (rules, child_from, child_few)

pub copy_front-requires : goal.copy_front-requires
copy_front-requires c = search (rules, child_from, child_front)

pub overflow_add-out : goal.overflow_add-out
overflow_add-out c = search (rules, child_from, child_byte)

pub put_box-requires : goal.put_box-requires
put_box-requires c = child_box (child_from c.bytes-bytes.ensures.is c.bytes-bytes.ensures.passes c.dim-dim.ensures c.depth.ensures c.requires) c.axes-axes.ensures c.split_place-k.ensures c.entries_of.ensures _ (c.out-2-1.given ∙ simp length-set c.out-1.given)

pub returns : goal.returns
returns c = rw (← c.dim-dim.ensures, ← c.depth.ensures, ← c.bytes-bytes.ensures.is) (search (rules, child_from, child_written))
