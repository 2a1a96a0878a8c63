-- `is_matched` meets its contract: which of the three is found decides, and of a cell inside a leaf that leaf's depth and the place.
use borrow.Author.Rules.{rules}
use Rattle.compatible.specs.Looks.{found_fits, look_two, look_find, look_there, look_no_parent, look_parent}
use Rattle.compatible.proofs.is_matched.Goals as goal

pub known-requires : goal.known-requires
known-requires c = c.requires.passes

pub find-found-requires : goal.find-found-requires
find-found-requires c = look_find c.requires (rw c.known.ensures at c.position_of.ensures)

pub overflow_add-found : goal.overflow_add-found
overflow_add-found c = search (rules, found_fits)

pub code_depth-requires : goal.code_depth-requires
code_depth-requires c = search (rules, look_two)

pub returns-in-Leaf : goal.returns-in-Leaf
returns-in-Leaf c = look_there c.requires (rw c.known.ensures at c.position_of.ensures) c.find-found.ensures c.in-Leaf.is

pub returns-then-found-code_depth : goal.returns-then-found-code_depth
returns-then-found-code_depth c = look_parent c.requires (rw c.known.ensures at c.position_of.ensures) c.find-found.ensures c.in-Inside.is c.code_depth.ensures c.if-found-code_depth.true c.split_place.ensures

pub returns-else-found-code_depth : goal.returns-else-found-code_depth
returns-else-found-code_depth c = look_no_parent c.requires (rw c.known.ensures at c.position_of.ensures) c.find-found.ensures c.in-Inside.is c.code_depth.ensures c.if-found-code_depth.false
