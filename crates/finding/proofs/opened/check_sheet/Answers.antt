-- `check_sheet` meets its contract: a good sheet's first record names its dimension.
use Rattle.finding.specs.Opened.{shut, checked, opened_first, opened_good}
use Rattle.std.proofs.lemmas.Result.{err_from_is_err_and}
use Rattle.finding.proofs.opened.check_sheet.Goals as goal

pub record_parts-first-requires : goal.record_parts-first-requires
record_parts-first-requires c = opened_first c.in_ok-records.ensures c.first_edition.ensures

pub returns-in_err-records : goal.returns-in_err-records
returns-in_err-records c =
    let p = err_from_is_err_and c.from_residual.result c.from_residual.ensures.1 in
    rw (p.1, p.2) (shut c.in_err-records.ensures)

pub returns : goal.returns
returns c = checked (opened_good c.in_ok-records.ensures c.first_edition.ensures c.record_parts-first.ensures)
