-- `word_of` meets its contract.
use Rattle.entries.specs.Words.{word_of_bytes}
use borrow.Author.Rules.{rules}
use Rattle.entries.proofs.words.word_of.Goals as goal

pub returns : goal.returns
returns c = search (rules, word_of_bytes)
