-- Document 01, "Sheets": the weights of a point of a cell with the side of the cell's box as their sum. There are such, for the
-- weights past the split place are even: when the box halves, so can all of them. And there are no others.
use Rattle.std.specs.Prelude.{◌≡◌, List, get_or}
use Prim.Native.Nat.{ℕ, ◌≤◌}
use Rattle.std.proofs.Math.ListN.{length}
use Rattle.dimension.specs.Sizes.{box_side}
use Rattle.bisection.specs.Cells.{Point, cell_of}
use Rattle.bisection.specs.Weights.{Weighs}

abbrev pub side_of : List ℕ → List ℕ → ℕ
side_of root path = box_side (length root) (length path)

-- document 01's weights: of sum s, each at most s, and the only ones
pub record BoxWeights (root path : List ℕ) (p : Point) : Type 0 where
  pub ws : List ℕ
  pub weighs : Weighs (cell_of root path) p (side_of root path) ws
  pub most : (j : ℕ) → get_or ws j 0 ≤ side_of root path
  pub others : {us : List ℕ} → Weighs (cell_of root path) p (side_of root path) us → us ≡ ws
