-- `record_at` meets its contract: the way down from the root of the leaf at the point ends in that leaf.
use native.Mathlib.Omega.{arith}
use Rattle.queries.specs.Choice.{stands_begun, stands_room, stands_chosen}
use borrow.Author.Rules.{rules}
use Rattle.queries.proofs.record_at.Goals as goal

pub descend-there-requires : goal.descend-there-requires
descend-there-requires c = search (rules, stands_begun)

pub overflow_add-result : goal.overflow_add-result
overflow_add-result c = omega (arith, stands_room c.first_leaf-standing.ensures c.code_length-code.ensures)

pub overflow_add-result-2 : goal.overflow_add-result-2
overflow_add-result-2 c = omega (arith, stands_room c.first_leaf-standing.ensures c.code_length-code.ensures)

pub returns : goal.returns
returns c = stands_chosen c.first_leaf-standing.ensures c.code_length-code.ensures c.descend-there.ensures
