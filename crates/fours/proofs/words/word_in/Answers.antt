-- `word_in` meets its contract.
use Rattle.fours.specs.Words.{entries_within}
use borrow.Author.Rules.{rules}
use Rattle.fours.proofs.words.word_in.Goals as goal

pub returns : goal.returns
returns c = search (rules, entries_within)
