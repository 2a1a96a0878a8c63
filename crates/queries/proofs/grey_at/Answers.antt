-- `grey_at` meets its contract: the weights of the cube's side give the value of the leaf's own.
use Rattle.queries.specs.Answers.{grey_end, grey_ready, grey_is}
use borrow.Author.Rules.{rules}
use Rattle.queries.proofs.grey_at.Goals as goal

pub slice_bounds-grey-end : goal.slice_bounds-grey-end
slice_bounds-grey-end c = search (rules, grey_end)

pub grey-requires : goal.grey-requires
grey-requires c = search (rules, grey_ready)

pub returns : goal.returns
returns c = search (rules, grey_is)
