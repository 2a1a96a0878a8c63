-- `child` meets its contract: each refusal in its order, then the code that is written.
use Rattle.codes.specs.ChildAnswers.{child_own, child_step, child_deepest, child_short, child_done}
use borrow.Author.Rules.{rules}
use Rattle.codes.proofs.child.Goals as goal

pub returns-in_err-code : goal.returns-in_err-code
returns-in_err-code c = search (rules, child_own)

pub returns-then-which-gt1 : goal.returns-then-which-gt1
returns-then-which-gt1 c = search (rules, child_step)

pub returns-then-greatest_depth-depth : goal.returns-then-greatest_depth-depth
returns-then-greatest_depth-depth c = search (rules, child_deepest)

pub returns-then-out-length : goal.returns-then-out-length
returns-then-out-length c = search (rules, child_short)

pub returns : goal.returns
returns c = search (rules, child_done)
