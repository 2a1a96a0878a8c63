-- `write_parent` meets its contract: the front of the code, and the entries one step up.
use mathlib.Core.Path.{refl}
use lib.ListN.{length-set}
use Rattle.dimension.specs.Laws.{axes_range, split_fits, split_sub, split_rest}
use Rattle.steps.specs.Relatives.{parent_from}
use Rattle.steps.specs.Parents.{parent_byte, parent_own, parent_front, parent_entries, parent_over, parent_some, parent_ready, parent_written}
use borrow.Author.Rules.{rules}
use Rattle.steps.proofs.write_parent.Goals as goal

pub own_of-own-requires : goal.own_of-own-requires
own_of-own-requires c = search (rules, parent_from, parent_own)

pub overflow_mul-k : goal.overflow_mul-k
overflow_mul-k c = search (rules, split_fits)

pub overflow_sub-k : goal.overflow_sub-k
overflow_sub-k c = search (rules, split_sub)

pub overflow_sub-k-2 : goal.overflow_sub-k-2
overflow_sub-k-2 c = search (rules, split_rest, axes_range)

pub word_in-requires : goal.word_in-requires
word_in-requires c = search (rules, parent_from, parent_entries)

pub overflow_sub-k-3 : goal.overflow_sub-k-3
overflow_sub-k-3 c = search (rules, parent_from, parent_some)

pub unstep-back-requires : goal.unstep-back-requires
unstep-back-requires c = parent_ready (parent_from c.bytes-bytes.ensures.is c.bytes-bytes.ensures.passes c.dim-dim.ensures c.depth-depth.ensures c.requires) c.axes-axes.ensures c.box_depth-boxes.ensures c.word_in.ensures

pub overflow_add-axes-2 : goal.overflow_add-axes-2
overflow_add-axes-2 c = search (rules, parent_own (parent_from c.bytes-bytes.ensures.is c.bytes-bytes.ensures.passes c.dim-dim.ensures c.depth-depth.ensures c.requires) c.axes-axes.ensures c.box_depth-boxes.ensures)

pub copy_front-requires : goal.copy_front-requires
copy_front-requires c = parent_front (parent_from c.bytes-bytes.ensures.is c.bytes-bytes.ensures.passes c.dim-dim.ensures c.depth-depth.ensures c.requires) c.axes-axes.ensures c.box_depth-boxes.ensures

pub overflow_sub-out : goal.overflow_sub-out
overflow_sub-out c = search (rules, parent_from, parent_byte)

pub write-requires : goal.write-requires
write-requires c = parent_over (parent_from c.bytes-bytes.ensures.is c.bytes-bytes.ensures.passes c.dim-dim.ensures c.depth-depth.ensures c.requires) c.axes-axes.ensures c.box_depth-boxes.ensures (simp length-set c.out-1.given)

pub returns : goal.returns
returns c = rw (← c.dim-dim.ensures, ← c.depth-depth.ensures, ← c.bytes-bytes.ensures.is) (parent_written (parent_from c.bytes-bytes.ensures.is c.bytes-bytes.ensures.passes c.dim-dim.ensures c.depth-depth.ensures c.requires) c.axes-axes.ensures c.box_depth-boxes.ensures c.word_in.ensures
    c.own_of-own.ensures c.unstep-back.ensures c.copy_front.ensures refl c.from.ensures c.write.ensures)
