-- `write_code` meets its contract. The loop keeps: the entries are those of the name t steps down the path, and its orthants are
-- written.
use Rattle.steps.specs.Descents.{code_two, code_headed, fall_none, fall_some, fall_few, fall_room, fall_next, code_over, code_written}
use borrow.Author.Rules.{rules}
use Rattle.steps.proofs.walks.write_code.Goals as goal

pub bounds-code-0 : goal.bounds-code-0
bounds-code-0 c = search (rules, code_two)

pub bounds-code-1 : goal.bounds-code-1
bounds-code-1 c = search (rules, code_two)

pub loop-step-init : goal.loop-step-init
loop-step-init c = search (rules, fall_none, code_headed)

pub overflow_sub-k : goal.overflow_sub-k
overflow_sub-k c = search (rules, fall_some)

pub step-entries-requires : goal.step-entries-requires
step-entries-requires c = search (rules, fall_few)

pub put_box-at-requires : goal.put_box-at-requires
put_box-at-requires c = search (rules, fall_room)

pub place_after-k-requires : goal.place_after-k-requires
place_after-k-requires c = search (rules, fall_some)

pub loop-step-preserved : goal.loop-step-preserved
loop-step-preserved c = search (rules, fall_next)

pub write-requires : goal.write-requires
write-requires c = code_over c.requires c.axes-axes.ensures c.loop-step.invariant c.loop-step-test.false

pub returns : goal.returns
returns c = search (rules, code_written)
