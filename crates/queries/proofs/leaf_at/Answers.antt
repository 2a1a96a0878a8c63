-- `leaf_at` meets its contract: refusals in their order, then the weights.
use Rattle.queries.specs.Answers.{err_is, leaf_not, leaf_short, leaf_writes, leaf_done}
use Rattle.queries.proofs.leaf_at.Goals as goal

pub returns-in_err-sheet : goal.returns-in_err-sheet
returns-in_err-sheet c = rw (err_is _ c.from_residual.ensures.1) (leaf_not _ _ c.in_err-sheet.ensures)

pub returns-then-weights-length : goal.returns-then-weights-length
returns-then-weights-length c = rw c.into.ensures (leaf_short _ c.in_ok-sheet.ensures.1 c.axes.ensures c.if-weights-length.true)

pub write_weights-requires : goal.write_weights-requires
write_weights-requires c = leaf_writes _ c.in_ok-sheet.ensures.1 c.axes.ensures c.in_ok-sheet.ensures.0 c.record_at-chosen.ensures c.box_depth-boxes.ensures c.if-weights-length.false

pub returns : goal.returns
returns c = leaf_done _ c.in_ok-sheet.ensures.1 c.axes.ensures c.in_ok-sheet.ensures.0 c.record_at-chosen.ensures c.box_depth-boxes.ensures c.if-weights-length.false c.write_weights.ensures
