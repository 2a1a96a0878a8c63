-- `is_path` meets its contract.
use Rattle.std.proofs.Common.{◌≡◌, leb, true, false}
use Rattle.std.proofs.lemmas.Iterator.{cases_from_all, YieldsList-from_slice}
use borrow.Author.Rules.{rules}
use borrow.Author.Tests.{tests}
use Rattle.bisection.specs.Refusals.{is_path}
use Rattle.entries.specs.Walks.{each_all}
use Rattle.entries.proofs.check.is_path.Goals as goal

pub returns : goal.returns
unfolding is_path
returns c = each_all (λ x. leb x 1) c.args.path.now (cases_from_all _ _ _ (λ x. leb x 1 ≡ true) (λ x. leb x 1 ≡ false) c.all.ensures.ran
    (YieldsList-from_slice c.args.path.now cc) (λ x q k. search (rules, tests)) (λ x q k. search (rules, tests)))
