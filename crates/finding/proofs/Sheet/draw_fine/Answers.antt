-- `draw_fine` meets its contract: the coarse entries stay, and one of them begins the fine ones.
use native.Mathlib.Omega.{arith}
use Rattle.finding.specs.Indexes.{draw_entry, draw_fill, draw_is}
use borrow.Author.Rules.{rules}
use Rattle.finding.proofs.Sheet.draw_fine.Goals as goal

pub overflow_add-from : goal.overflow_add-from
overflow_add-from c = record { fits = omega (arith, draw_entry c.requires {less = c.saturating_sub.result} (omega arith)) }

pub slice_copy_out-from : goal.slice_copy_out-from
slice_copy_out-from c = draw_entry c.requires {less = c.saturating_sub.result} (omega arith)

pub offset_bounds-entries-coarse : goal.offset_bounds-entries-coarse
offset_bounds-entries-coarse c = let l = draw_entry c.requires {less = c.saturating_sub.result} (omega arith) in search rules

pub fill-requires : goal.fill-requires
fill-requires c = draw_fill c.requires (omega arith) c.min.ensures

pub returns : goal.returns
returns c = draw_is c.requires c.fill.ensures
