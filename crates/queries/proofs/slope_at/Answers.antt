-- `slope_at` meets its contract: refusals in their order, then the slopes.
use Rattle.queries.specs.Answers.{err_is}
use Rattle.queries.specs.SlopeAnswers.{slope_not, slopes_first, slope_done}
use borrow.Author.Rules.{rules}
use Rattle.queries.proofs.slope_at.Goals as goal

pub returns-in_err-sheet : goal.returns-in_err-sheet
returns-in_err-sheet c = rw (err_is _ c.from_residual.ensures.1) (slope_not c.in_err-sheet.ensures)

pub slopes_at-requires : goal.slopes_at-requires
slopes_at-requires c = search (rules, slopes_first)

pub returns : goal.returns
returns c = slope_done c.in_ok-sheet.ensures.1 c.in_ok-sheet.ensures.0 c.slopes_at.ensures
