-- `flip_last` meets its contract: the last four are read, flipped and put as one word.
use Rattle.moves.specs.CarryWords.{flips_word}
use borrow.Author.Rules.{rules}
use Rattle.moves.proofs.carries.flip_last.Goals as goal

pub returns : goal.returns
returns c = search (rules, flips_word)
