-- `code_check` meets its contract: the head and the body in their order.
use Rattle.codes.specs.Heads.{check_short, check_head, check_length, check_headed, check_body}
use borrow.Author.Rules.{rules}
use Rattle.codes.proofs.code_check.Goals as goal

pub returns-then-code-lt2 : goal.returns-then-code-lt2
returns-then-code-lt2 c = search (rules, check_short)

pub returns-in_err-head : goal.returns-in_err-head
returns-in_err-head c = search (rules, check_head)

pub returns-then-code-head : goal.returns-then-code-head
returns-then-code-head c = search (rules, check_length)

pub code_body-requires : goal.code_body-requires
code_body-requires c = search (rules, check_headed)

pub returns : goal.returns
returns c = search (rules, check_body)
