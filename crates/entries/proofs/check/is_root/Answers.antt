-- `is_root` meets its contract.
use Rattle.std.proofs.Common.{◌≡◌, true, false, not}
use Rattle.std.proofs.lemmas.Iterator.{cases_from_all, YieldsList-from_slice}
use borrow.Author.Rules.{rules}
use borrow.Author.Tests.{tests}
use Rattle.bisection.specs.Codes.{minus}
use Rattle.entries.specs.Walks.{each_all, root_plain, root_not}
use Rattle.entries.specs.Words.{none_behind}
use Rattle.entries.proofs.check.is_root.Goals as goal

pub permuted-requires : goal.permuted-requires
permuted-requires c = (c.requires.0, c.requires.1, none_behind c.args.root.now c.first_word.ensures.bytes)

pub returns-then-permuted : goal.returns-then-permuted
returns-then-permuted c = root_plain c.args.root.now c.requires.1 c.first_word.ensures.bytes c.permuted.ensures c.if-permuted.true
    (each_all (λ e. not (minus e)) c.args.root.now (cases_from_all _ _ _ (λ e. not (minus e) ≡ true) (λ e. not (minus e) ≡ false) c.all.ensures.ran
    (YieldsList-from_slice c.args.root.now cc) (λ x q k. search (rules, tests)) (λ x q k. search (rules, tests))))

pub returns-else-permuted : goal.returns-else-permuted
returns-else-permuted c = root_not c.args.root.now c.requires.1 c.first_word.ensures.bytes c.permuted.ensures c.if-permuted.false
