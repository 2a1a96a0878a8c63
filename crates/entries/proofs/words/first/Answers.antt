-- `first` meets its contract.
use Rattle.entries.specs.Words.{first_of_is}
use borrow.Author.Rules.{rules}
use Rattle.entries.proofs.words.first.Goals as goal

pub returns : goal.returns
returns c = search (rules, first_of_is)
