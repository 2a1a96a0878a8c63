-- `mark_of` meets its contract: the bit at the axis, one place down.
use Rattle.entries.specs.Masks.{mark_as}
use borrow.Author.Rules.{rules}
use Rattle.entries.proofs.mark_of.Goals as goal

pub returns : goal.returns
returns c = search (rules, mark_as)
