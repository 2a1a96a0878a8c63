-- `slopes_at` meets its contract: the leaf's code and its samples stand one behind the other.
use native.Mathlib.Omega.{arith}
use Rattle.queries.specs.Choice.{stands_room}
use Rattle.queries.specs.SlopeAnswers.{code_end, slopes_end, slopes_code, slopes_ready, slopes_are}
use borrow.Author.Rules.{rules}
use Rattle.queries.proofs.slopes_at.Goals as goal

pub overflow_add-samples : goal.overflow_add-samples
overflow_add-samples c = omega (arith, stands_room c.first_leaf-leaf.ensures c.code_length.ensures)

pub overflow_add-end : goal.overflow_add-end
overflow_add-end c = omega (arith, slopes_end c.requires c.first_leaf-leaf.ensures c.code_length.ensures c.samples_length_in.ensures)

pub slice_bounds-known-end : goal.slice_bounds-known-end
slice_bounds-known-end c = search (rules, code_end)

pub known-code-requires : goal.known-code-requires
known-code-requires c = slopes_code c.requires c.first_leaf-leaf.ensures c.code_length.ensures c.samples_length_in.ensures

pub slice_bounds-in_cell-end : goal.slice_bounds-in_cell-end
slice_bounds-in_cell-end c = search (rules, slopes_end)

pub in_cell-requires : goal.in_cell-requires
in_cell-requires c = slopes_ready c.requires c.first_leaf-leaf.ensures c.code_length.ensures c.samples_length_in.ensures c.known-code.ensures

pub returns : goal.returns
returns c = slopes_are c.requires c.first_leaf-leaf.ensures c.code_length.ensures c.samples_length_in.ensures (rw c.known-code.ensures at c.in_cell.ensures)
