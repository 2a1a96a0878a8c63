-- `record_parts` meets its contract: the record is there, so its head passes and its lengths fit.
use native.Mathlib.Omega.{arith}
use Rattle.sheets.specs.StepLaws.{marked_long, parts_marked, parts_headed, parts_fit, parts_are, head_behind, head_known}
use Rattle.sheets.proofs.record_parts.Goals as goal

pub slice_bounds-code_head-count : goal.slice_bounds-code_head-count
slice_bounds-code_head-count c = omega (arith, marked_long _ _ (parts_marked _ _ _ c.requires))

pub slice_bounds-code_head-start : goal.slice_bounds-code_head-start
slice_bounds-code_head-start c = omega (arith, marked_long _ _ (parts_marked _ _ _ c.requires))

pub code_head-requires : goal.code_head-requires
code_head-requires c = omega (arith, marked_long _ _ (parts_marked _ _ _ c.requires))

pub unwrap-head-requires : goal.unwrap-head-requires
unwrap-head-requires c = parts_headed _ _ _ c.requires _ (head_behind _ _ _ _ c.code_head.ensures)

pub overflow_add-result : goal.overflow_add-result
overflow_add-result c = omega (arith, parts_fit _ _ _ c.requires (head_known _ _ _ _ c.code_head.ensures c.unwrap-head.ensures) c.samples_length_in.ensures.0)

pub overflow_add-result-2 : goal.overflow_add-result-2
overflow_add-result-2 c = omega (arith, parts_fit _ _ _ c.requires (head_known _ _ _ _ c.code_head.ensures c.unwrap-head.ensures) c.samples_length_in.ensures.0)

pub returns : goal.returns
returns c = parts_are _ _ _ c.requires (head_known _ _ _ _ c.code_head.ensures c.unwrap-head.ensures) c.samples_length_in.ensures.0
