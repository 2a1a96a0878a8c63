-- `opened` meets its contract: what refuses the head refuses the record.
use Rattle.std.proofs.lemmas.Result.{err_from_is_err_and}
use Rattle.sheets.specs.StepLaws.{open_refused}
use Rattle.sheets.proofs.opened.Goals as goal

pub returns-in_err-dim : goal.returns-in_err-dim
returns-in_err-dim c =
    let p = err_from_is_err_and c.from_residual.result c.from_residual.ensures.1 in
    rw (p.1, p.2) (open_refused c.in-Some.ensures _ c.in_err-dim.ensures)
