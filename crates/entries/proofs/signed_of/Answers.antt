-- `signed_of` meets its contract: a byte below 128 is the number, another its negative.
use borrow.Author.Rules.{rules}
use Rattle.entries.specs.Signs.{plus_value, minus_value}
use Rattle.entries.proofs.signed_of.Goals as goal

pub returns-then-e-lt128 : goal.returns-then-e-lt128
returns-then-e-lt128 c = search (rules, plus_value)

pub returns-else-e-lt128 : goal.returns-else-e-lt128
returns-else-e-lt128 c = search (rules, minus_value)
