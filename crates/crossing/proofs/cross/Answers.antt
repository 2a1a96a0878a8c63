-- `cross` meets its contract: the code's own refusal comes first.
use Rattle.crossing.proofs.AnswerLaws.{cross_own}
use borrow.Author.Rules.{rules}
use Rattle.crossing.proofs.cross.Goals as goal

pub returns-in_err-checked : goal.returns-in_err-checked
returns-in_err-checked c = search (rules, cross_own)
