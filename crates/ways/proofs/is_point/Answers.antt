-- `is_point` meets its contract: the coordinates before i are in the cube.
use Rattle.ways.specs.Starts.{test_length, test_outside, test_end}
use borrow.Author.Rules.{rules}
use Rattle.ways.proofs.is_point.Goals as goal

pub returns-then-point-axes : goal.returns-then-point-axes
returns-then-point-axes c = search (rules, test_length)

pub returns-then-most-coordinate_at : goal.returns-then-most-coordinate_at
returns-then-most-coordinate_at c = search (rules, test_outside)

pub returns : goal.returns
returns c = search (rules, test_end)
