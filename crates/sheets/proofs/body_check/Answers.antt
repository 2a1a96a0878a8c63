-- `body_check` meets its contract: each way out is one of the tests behind the mark, in their order.
use borrow.Author.Rules.{rules}
use native.Mathlib.Omega.{arith}
use Rattle.sheets.specs.StepLaws.{body_cut, body_headed, body_inner, body_samples, body_done}
use Rattle.sheets.proofs.body_check.Goals as goal

pub returns-in_default : goal.returns-in_default
returns-in_default c = body_cut _ _ c.in_ok-head.ensures (grind (arith, c.in_default.ensures.lookup))

pub code_body-requires : goal.code_body-requires
code_body-requires c = body_headed c.args.width _ c.in_ok-head.ensures c.in-Some.ensures.lookup.0.1 c.in-Some.ensures.lookup.0.2

pub returns-in_err-code_body : goal.returns-in_err-code_body
returns-in_err-code_body c = let law = body_inner c.args.width _ c.in_ok-head.ensures c.in-Some.ensures.lookup.0.1 c.in-Some.ensures.lookup.0.2 in search (rules, law)

pub returns-then-bytes-head : goal.returns-then-bytes-head
returns-then-bytes-head c = body_samples _ _ c.in_ok-head.ensures c.in-Some.ensures.lookup.0.1 c.in-Some.ensures.lookup.0.2 c.in_ok-code_body.ensures c.samples_length_in.ensures.0 c.if-bytes-head.true

pub returns : goal.returns
returns c = body_done _ _ c.in_ok-head.ensures c.in-Some.ensures.lookup.0.1 c.in-Some.ensures.lookup.0.2 c.in_ok-code_body.ensures c.samples_length_in.ensures.0 c.if-bytes-head.false
