-- Document 01, "Sheets": the leaf at a point is the first in tree order, so its root is the first that contains the point.
use Rattle.std.specs.Prelude.{List, [], ℕ, ◌<◌, length, get_or}
use Rattle.bisection.specs.Cells.{Point, cell_of}
use Rattle.bisection.specs.Weights.{Inside}

-- root number n of a list is the first whose closed cell contains the point
pub record FirstRoot (roots : List (List ℕ)) (p : Point) (n : ℕ) : Type 0 where
  pub small : n < length roots
  pub inside : Inside (cell_of (get_or roots n []) []) p
  pub none_before : (i : ℕ) → i < n → Inside (cell_of (get_or roots i []) []) p → ⊥
