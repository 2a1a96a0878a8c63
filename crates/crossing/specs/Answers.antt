-- What a crossing that is done answers.
use Rattle.std.specs.Prelude.{◌≡◌, List, ℕ, length}
use Rattle.corners.specs.Vertices.{vertex_in}
use Rattle.crossing.specs.declared.Crossing.{Crossing}
use Rattle.crossing.specs.Outcome.{by_axes}

-- the whole answer: vertex j of the cell of the code across is new
pub record Whole (j : ℕ) (across : List ℕ) (r : Crossing) : Type 0 where
  pub place : r.place ≡ j
  pub size : r.length ≡ length across
  pub vertex : r.vertex ≡ by_axes (vertex_in across j)
