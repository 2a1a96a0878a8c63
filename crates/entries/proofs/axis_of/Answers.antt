-- `axis_of` meets its contract: a byte from 128 on has a minus.
use borrow.Author.Rules.{rules}
use Rattle.bisection.specs.Codes.{axis, minus}
use Rattle.entries.proofs.axis_of.Goals as goal

pub returns-then-e-lt128 : goal.returns-then-e-lt128
unfolding axis minus
returns-then-e-lt128 c = search rules

pub returns-else-e-lt128 : goal.returns-else-e-lt128
unfolding axis minus
returns-else-e-lt128 c = search rules
