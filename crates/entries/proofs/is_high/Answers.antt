-- `is_high` meets its contract: a mask of one bit is the remainder by two.
use Rattle.entries.specs.Masks.{high_masked}
use borrow.Author.Rules.{rules}
use Rattle.entries.proofs.is_high.Goals as goal

pub returns : goal.returns
returns c = search (rules, high_masked)
