-- `vertices` meets its contract: each refusal in its order, then the points that are written.
use Rattle.codes.specs.CellAnswers.{vertices_own, vertices_short, vertices_ready, vertices_done}
use borrow.Author.Rules.{rules}
use Rattle.codes.proofs.vertices.Goals as goal

pub returns-in_err-code : goal.returns-in_err-code
returns-in_err-code c = search (rules, vertices_own)

pub returns-then-points-length : goal.returns-then-points-length
returns-then-points-length c = search (rules, vertices_short)

pub write_cell-requires : goal.write_cell-requires
write_cell-requires c = search (rules, vertices_ready)

pub returns : goal.returns
returns c = search (rules, vertices_done)
