-- `same_few` meets its contract. The loop keeps: all are the same exactly where the rest is.
use Rattle.next.specs.Digits.{comparing_on, compared_not, compared}
use borrow.Author.Rules.{rules}
use Rattle.next.proofs.same_few.Goals as goal

pub returns-then-from-digit : goal.returns-then-from-digit
returns-then-from-digit c = search (rules, compared_not)

pub loop-i-preserved : goal.loop-i-preserved
loop-i-preserved c = search (rules, comparing_on)

pub returns : goal.returns
returns c = search (rules, compared)
