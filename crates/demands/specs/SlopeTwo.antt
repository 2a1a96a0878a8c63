-- Request No. 1, worked by the museum: the two-root sheet at (1024,512) has the slopes 10/4096 and 30/4096. Its leaf there is record 0,
-- with the samples 10, 20 and 50 at (0,0), (4096,0) and (4096,4096).
use Rattle.std.specs.Prelude.{◌≡◌, refl, List, [], ◌∷◌, ℕ, zero, suc, ◌<◌, ℤ, pos, ◌*ℤ◌}
use Rattle.std.proofs.Common.{arith}
use Rattle.std.proofs.Math.IntN.{sub_ℕ}
use Rattle.dimension.specs.Sizes.{halvings, cube_side}
use Rattle.bisection.specs.Cells.{cell_of, cell_below, root_cell, corners, moved}
use Rattle.bisection.specs.Slopes.{sumℤ, on_axis, apart, Linear}
use Rattle.sheets.specs.Sheets.{sample_width, samples_of}
use Rattle.greys.specs.Samples.{sample_at, low_first}
use Rattle.queries.specs.Queries.{cell_in, LeafAt}
use Rattle.demands.specs.TwoLeaves.{two_leaves_good}
use Rattle.demands.specs.PointTen.{first_leaf}

abbrev pub slope_numbers : List ℤ
slope_numbers = pos 10 ∷ pos 30 ∷ []

pub slope_leaf : LeafAt two_leaves_good.cells (1024 ∷ 512 ∷ []) 0
slope_leaf = first_leaf 1024 512 (omega arith) (omega arith)

pub slope_linear : Linear 4096 (cell_in two_leaves_good.cells 0) (sample_at sample_width (samples_of two_leaves_good.records 0)) slope_numbers
unfolding two_leaves_good cell_of cell_below root_cell corners moved cube_side halvings sumℤ sample_at low_first samples_of
slope_linear = record { count = refl; between = between }
  where
    between : (i j : ℕ) → i < 3 → j < 3 → pos 4096 *ℤ sub_ℕ (sample_at sample_width (samples_of two_leaves_good.records 0) j) (sample_at sample_width (samples_of two_leaves_good.records 0) i)
        ≡ sumℤ 2 (λ t. on_axis slope_numbers (suc t) *ℤ apart (cell_in two_leaves_good.cells 0) i j (suc t))
    between zero zero l h = refl
    between zero (suc zero) l h = refl
    between zero (suc (suc zero)) l h = refl
    between zero (suc (suc (suc j))) l h = absurd (omega arith)
    between (suc zero) zero l h = refl
    between (suc zero) (suc zero) l h = refl
    between (suc zero) (suc (suc zero)) l h = refl
    between (suc zero) (suc (suc (suc j))) l h = absurd (omega arith)
    between (suc (suc zero)) zero l h = refl
    between (suc (suc zero)) (suc zero) l h = refl
    between (suc (suc zero)) (suc (suc zero)) l h = refl
    between (suc (suc zero)) (suc (suc (suc j))) l h = absurd (omega arith)
    between (suc (suc (suc i))) j l h = absurd (omega arith)
