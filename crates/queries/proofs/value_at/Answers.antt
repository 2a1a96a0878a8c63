-- `value_at` meets its contract: refusals in their order, then the value.
use Rattle.queries.specs.Answers.{err_is, value_not, value_done}
use Rattle.queries.proofs.value_at.Goals as goal

pub returns-in_err-sheet : goal.returns-in_err-sheet
returns-in_err-sheet c = rw (err_is _ c.from_residual.ensures.1) (value_not c.in_err-sheet.ensures)

pub returns : goal.returns
returns c = value_done c.in_ok-sheet.ensures.0 c.grey_at.ensures
