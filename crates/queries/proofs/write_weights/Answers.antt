-- `write_weights` meets its contract. The loop keeps: the weights from n on are still to be put.
use Rattle.std.proofs.Common.{◌∙◌, arith}
use Rattle.queries.specs.Writing.{writing_start, writing_next, writing_end}
use borrow.Author.Rules.{rules}
use Rattle.queries.proofs.write_weights.Goals as goal

pub loop-n-init : goal.loop-n-init
loop-n-init c = search (rules, writing_start)

pub loop-n-preserved : goal.loop-n-preserved
loop-n-preserved c = writing_next c.loop-n.invariant (omega arith) (c.copy_from_slice.ensures.after ∙ c.to_le_bytes.ensures)

pub returns : goal.returns
returns c = search (rules, writing_end)
