-- `own_of` meets its contract.
use Rattle.fours.specs.Parts.{own_is}
use borrow.Author.Rules.{rules}
use Rattle.fours.proofs.own_of.Goals as goal

pub returns : goal.returns
returns c = search (rules, own_is)
