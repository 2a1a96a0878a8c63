-- `rearranged` meets its contract: the row that is taken is the table's.
use Rattle.moves.specs.Rearranging.{next_low, next_high, rearranged_is}
use borrow.Author.Rules.{rules}
use Rattle.moves.proofs.rearranged.Goals as goal

pub same_sign-requires : goal.same_sign-requires
same_sign-requires c = search (rules, next_low, next_high)

pub returns : goal.returns
returns c = search (rules, rearranged_is)
