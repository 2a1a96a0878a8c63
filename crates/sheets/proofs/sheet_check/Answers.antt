-- `sheet_check` meets its contract. The loop keeps: what has been read is a front of some good sheet, and the state stands for the
-- cell behind it.
use Rattle.std.proofs.Common.{refl, ◌∙◌}
use Rattle.std.proofs.lemmas.Result.{err_from_is_err_and}
use native.Mathlib.Omega.{arith}
use Rattle.sheets.specs.StepLaws.{first_checks}
use Rattle.sheets.specs.Progress.{going_start, go_refused, go_ready, go_on}
use Rattle.sheets.specs.Ends.{shut_checks, go_early, go_good}
use Rattle.sheets.proofs.sheet_check.Goals as goal

pub returns-in_err-state : goal.returns-in_err-state
returns-in_err-state c =
    let p = err_from_is_err_and c.from_residual.result c.from_residual.ensures.1 in
    rw (p.1, p.2) (first_checks _ c.first_edition-edition.ensures (shut_checks c.in_err-state.ensures))

pub loop-state-init : goal.loop-state-init
loop-state-init c = going_start c.in_ok-state.ensures

pub returns-in_default : goal.returns-in_default
returns-in_default c = first_checks _ c.first_edition-edition.ensures
    (go_refused c.loop-state.invariant c.loop-state-test.true c.in_default.ensures _ c.record_check.ensures _ (cc))

pub moved-state-requires : goal.moved-state-requires
moved-state-requires c = go_ready c.loop-state.invariant c.loop-state-test.true c.in-Some.ensures refl (omega arith)

pub loop-state-preserved : goal.loop-state-preserved
loop-state-preserved c = (go_on c.loop-state.invariant c.loop-state-test.true c.in-Some.ensures refl c.moved-state.ensures).going_on

pub returns-then-state-roots : goal.returns-then-state-roots
returns-then-state-roots c = first_checks _ c.first_edition-edition.ensures (go_early c.loop-state.invariant c.loop-state-test.false (λ e. c.if-state-roots.true (cc)))

pub returns : goal.returns
returns c = first_checks _ c.first_edition-edition.ensures (go_good c.loop-state.invariant c.loop-state-test.false (c.if-state-roots.false ∙ c.roots.ensures))
