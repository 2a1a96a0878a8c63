-- `index_of` meets its contract: the coarse entries leave room for the fine ones.
use Rattle.finding.specs.Indexes.{index_records, index_fill, index_draw}
use borrow.Author.Rules.{rules}
use Rattle.finding.proofs.Sheet.index_of.Goals as goal

pub overflow_sub-stride : goal.overflow_sub-stride
overflow_sub-stride c = search (rules, index_records)

pub overflow_sub-coarse : goal.overflow_sub-coarse
overflow_sub-coarse c = search (rules, index_records)

pub fill-requires : goal.fill-requires
fill-requires c = search (rules, index_fill)

pub draw_fine-fine-requires : goal.draw_fine-fine-requires
draw_fine-fine-requires c = search (rules, index_draw)
