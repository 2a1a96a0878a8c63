-- `flip_from` meets its contract: one xor with the word of those bits.
use Rattle.moves.specs.CarryWords.{flipped_from}
use borrow.Author.Rules.{rules}
use Rattle.moves.proofs.carries.flip_from.Goals as goal

pub returns : goal.returns
returns c = search (rules, flipped_from)
