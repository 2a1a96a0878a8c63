-- `record_holds` meets its contract: the code of the record's leaf stands behind the mark, and its last step is told by where it starts.
use native.Mathlib.Omega.{arith}
use Rattle.finding.specs.Records.{record_two, record_deep}
use Rattle.compatible.specs.Walking.{record_end, record_leaf, record_passed, record_broken}
use Rattle.compatible.proofs.record_holds.Goals as goal

pub depth_at-depth-requires : goal.depth_at-depth-requires
depth_at-depth-requires c = record_two c.requires.at

pub part-size-requires : goal.part-size-requires
part-size-requires c = record_deep c.requires.at c.depth_at-depth.ensures

pub overflow_add-code : goal.overflow_add-code
overflow_add-code c = omega (arith, record_end c.depth_at-depth.ensures c.code_length.ensures c.requires.at, c.requires.at.long)

pub slice_bounds-code-end : goal.slice_bounds-code-end
slice_bounds-code-end c = omega (arith, record_end c.depth_at-depth.ensures c.code_length.ensures c.requires.at)

pub leaf_holds-requires : goal.leaf_holds-requires
leaf_holds-requires c = record_leaf c.depth_at-depth.ensures c.code_length.ensures c.part-size.ensures c.requires

pub record_length-requires : goal.record_length-requires
record_length-requires c = record_deep c.requires.at c.depth_at-depth.ensures

pub returns-then-leaf_holds : goal.returns-then-leaf_holds
returns-then-leaf_holds c = record_passed c.depth_at-depth.ensures c.code_length.ensures c.part-size.ensures c.leaf_holds.ensures c.if-leaf_holds.true c.record_length.ensures

pub returns-else-leaf_holds : goal.returns-else-leaf_holds
returns-else-leaf_holds c = record_broken c.depth_at-depth.ensures c.code_length.ensures c.leaf_holds.ensures c.if-leaf_holds.false
