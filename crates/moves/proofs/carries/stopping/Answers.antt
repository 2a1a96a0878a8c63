-- `stopping` meets its contract: the bits of the axis at the feet of the bytes, turned where the entry has a minus.
use Rattle.moves.specs.CarryWords.{stopping_plus, stopping_minus}
use borrow.Author.Rules.{rules}
use Rattle.moves.proofs.carries.stopping.Goals as goal

pub returns-then-is_minus : goal.returns-then-is_minus
returns-then-is_minus c = search (rules, stopping_minus)

pub returns-else-is_minus : goal.returns-else-is_minus
returns-else-is_minus c = search (rules, stopping_plus)
