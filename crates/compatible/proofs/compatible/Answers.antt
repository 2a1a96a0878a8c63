-- `compatible` meets its contract.
use Rattle.finding.specs.Opened.{opened_checked}
use Rattle.compatible.specs.Answers.{compatible_shut, compatible_told}
use Rattle.std.proofs.lemmas.Result.{err_from_is_err_and}
use Rattle.compatible.proofs.compatible.Goals as goal

pub leaves_compatible-requires : goal.leaves_compatible-requires
leaves_compatible-requires c = opened_checked c.in_ok-opened.ensures

pub returns-in_err-opened : goal.returns-in_err-opened
returns-in_err-opened c =
    let p = err_from_is_err_and c.from_residual.result c.from_residual.ensures.1 in
    rw (p.1, p.2) (compatible_shut c.in_err-opened.ensures)

pub returns : goal.returns
returns c = compatible_told c.in_ok-opened.ensures c.leaves_compatible.ensures
