-- `passed` meets its contract: the first 1 from the top tells it.
use Rattle.moves.specs.CarryWords.{passed_is}
use borrow.Author.Rules.{rules}
use Rattle.moves.proofs.carries.passed.Goals as goal

pub returns : goal.returns
returns c = search (rules, passed_is)
