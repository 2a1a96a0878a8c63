-- Points of the two-root sheet whose leaf is record 0, those of x1 at least x2: P10 of document 01, where at (1024,1024) the weights are
-- 3072, 0, 1024 and the value is 20, and (1024,512) of request No. 1.
use Rattle.std.specs.Prelude.{◌≡◌, refl, List, [], ◌∷◌}
use Prim.Native.Nat.{ℕ, zero, suc, ◌-◌, ◌*◌, ◌≤◌}
use native.Mathlib.Omega.{arith}
use Rattle.dimension.specs.Sizes.{halvings, cube_side, side_after, box_side, box_depth}
use Rattle.bisection.specs.Cells.{coordinate, cell_of, cell_below, root_cell, corners, moved}
use Rattle.bisection.specs.Weights.{sum_to, total, weighted}
use Rattle.queries.specs.Queries.{cell_in, LeafAt, LeafWeights}
use Rattle.demands.specs.TwoLeaves.{two_leaves_good}

-- (x,y) has the weights 4096 - x, x - y and y
module _ (x y : ℕ) (h : y ≤ x) (l : x ≤ 4096) where
  pub first_weighs : LeafWeights two_leaves_good.cells 0 (x ∷ y ∷ []) ((4096 - x) ∷ (x - y) ∷ y ∷ [])
  unfolding two_leaves_good cell_of cell_below root_cell corners moved sum_to total weighted box_side box_depth side_after cube_side halvings
  first_weighs = record { count = refl; sum = omega arith; mean = mean }
    where
      mean : (a : ℕ) → 1 ≤ a → a ≤ 2 → weighted ((4096 - x) ∷ (x - y) ∷ y ∷ []) (cell_in two_leaves_good.cells 0) a ≡ 4096 * coordinate (x ∷ y ∷ []) a
      mean zero n m = absurd (omega arith)
      mean (suc zero) n m = omega arith
      mean (suc (suc zero)) n m = omega arith
      mean (suc (suc (suc a))) n m = absurd (omega arith)

  pub first_leaf : LeafAt two_leaves_good.cells (x ∷ y ∷ []) 0
  unfolding two_leaves_good box_side box_depth side_after cube_side halvings
  first_leaf = record { number = omega arith; inside = record { W = 4096; some = omega arith; ws = (4096 - x) ∷ (x - y) ∷ y ∷ []; weighs = first_weighs }; first = λ j m. absurd (omega arith) }

abbrev pub weights_ten : List ℕ
weights_ten = 3072 ∷ 0 ∷ 1024 ∷ []

pub ten_weighs : LeafWeights two_leaves_good.cells 0 (1024 ∷ 1024 ∷ []) weights_ten
ten_weighs = first_weighs 1024 1024 (omega arith) (omega arith)

pub ten_leaf : LeafAt two_leaves_good.cells (1024 ∷ 1024 ∷ []) 0
ten_leaf = first_leaf 1024 1024 (omega arith) (omega arith)
