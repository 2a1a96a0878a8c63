-- `minus_mark_of` meets its contract: the bit of the minus at the axis, one place down.
use Rattle.entries.specs.Masks.{minus_mark_as}
use borrow.Author.Rules.{rules}
use Rattle.entries.proofs.minus_mark_of.Goals as goal

pub returns : goal.returns
returns c = search (rules, minus_mark_as)
