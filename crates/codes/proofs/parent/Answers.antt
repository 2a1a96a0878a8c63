-- `parent` meets its contract: each refusal in its order, then the code that is written.
use Rattle.codes.specs.ParentAnswers.{parent_own, parent_root, parent_short, parent_done}
use borrow.Author.Rules.{rules}
use Rattle.codes.proofs.parent.Goals as goal

pub returns-in_err-code : goal.returns-in_err-code
returns-in_err-code c = search (rules, parent_own)

pub returns-then-depth-eq0 : goal.returns-then-depth-eq0
returns-then-depth-eq0 c = search (rules, parent_root)

pub returns-then-out-length : goal.returns-then-out-length
returns-then-out-length c = search (rules, parent_short)

pub returns : goal.returns
returns c = search (rules, parent_done)
