-- `asked` meets its contract: the check of the sheet, then of the point.
use Rattle.std.proofs.Common.{refl}
use Rattle.queries.specs.Answers.{err_is, asked_shut, asked_out, asked_ready}
use Rattle.queries.proofs.asked.Goals as goal

pub returns-in_err-opened : goal.returns-in_err-opened
returns-in_err-opened c = rw (err_is _ c.from_residual.ensures.1) (asked_shut _ _ c.in_err-opened.ensures)

pub returns-then-not-is_point : goal.returns-then-not-is_point
returns-then-not-is_point c = rw c.into.ensures (asked_out c.in_ok-opened.ensures _ c.if-not-is_point.ensures)

pub returns : goal.returns
returns c = (refl, asked_ready c.in_ok-opened.ensures _ c.if-not-is_point.ensures c.first_edition.ensures)
