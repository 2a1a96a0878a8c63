-- Document 01, "Sheets": the weights of a point of a cell with the side of the cell's box as their sum. There are such, for the
-- weights past the split place are even: when the box halves, so can all of them. And there are no others.
use Rattle.std.specs.Prelude.{◌≡◌, refl, List, [], ◌∷◌, ◌++◌, ◌⊎◌, get_or}
use Rattle.std.proofs.Common.{sym, ◌∙◌, inl, inr, arith}
use Prim.Native.Nat.{ℕ, zero, suc, ◌*◌, ◌/◌, ◌%◌, ◌^◌, ◌≤◌, ◌<◌}
use Rattle.std.proofs.Math.Nat.{eq_of_mul-eq-mul_left}
use Rattle.std.proofs.Math.Decide.{ℕ_discrete}
use Rattle.std.proofs.Math.ListN.{length}
use Rattle.dimension.specs.Sizes.{halvings, cube_side, greatest_depth, split_place, box_depth, box_side}
use Rattle.dimension.specs.Laws.{at_root, side_first, side_pos, side_whole, side_twice, box_in, box_under, split_range, Within, Turned, deeper}
use Rattle.bisection.specs.Cells.{Point, cell_of}
use Rattle.bisection.specs.Roots.{GoodRoot}
use Rattle.bisection.proofs.Theorems.CodePaths.{some_axes}
use Rattle.bisection.proofs.Theorems.Geometry.{closed_form}
use Rattle.bisection.specs.Weights.{sum_to, Weighs}
use Rattle.bisection.proofs.Theorems.Weights.Sums.{sum_same, sum_scale}
use Rattle.bisection.specs.Theorems.Weights.Axes.{Axes, list_of}
use Rattle.bisection.proofs.Theorems.Weights.Axes.{axes_list, weight_most}
use Rattle.points.specs.Theorems.Halving.{down}
use Rattle.points.proofs.Theorems.Halving.{low_down_last, low_down_other, high_down_last, high_down_past}
use Rattle.points.specs.Theorems.RootCells.{root_weight}
use Rattle.points.proofs.Theorems.RootCells.{inside_falls, falls_axes}
use Rattle.points.specs.Theorems.Cells.{In, CellAxes, split_of}
use Rattle.points.proofs.Theorems.Cells.{one_longer, by_steps, step_down, in_parent, half_fits, weights_scaled, weights_one}
use Rattle.points.specs.Theorems.BoxWeights.{BoxWeights, side_of}

down_even : (b k d : ℕ) (w : ℕ → ℕ) → 1 ≤ k → ((j : ℕ) → k < j → j ≤ d → w j % 2 ≡ 0) → (j : ℕ) → k ≤ j → j ≤ d → down b k w j % 2 ≡ 0
down_even b k d w k1 even j l h = go b (ℕ_discrete j k)
  where
    go : (b : ℕ) → Dec (j ≡ k) → down b k w j % 2 ≡ 0
    go zero (yes e) = rw e (rw (low_down_last 0 k w k1) (omega arith))
    go zero (no e) = rw (low_down_other 0 k w j (omega arith) e) (even j (omega arith) h)
    go (suc b) (yes e) = rw (high_down_last b k w j e) (omega arith)
    go (suc b) (no e) = rw (high_down_past b k w j (omega arith)) (even j (omega arith) h)

first_even : (n : ℕ) (f : ℕ → ℕ) → sum_to (suc n) f % 2 ≡ 0 → ((j : ℕ) → 1 ≤ j → j ≤ n → f j % 2 ≡ 0) → f 0 % 2 ≡ 0
unfolding sum_to
first_even zero f e h = omega arith
first_even (suc n) f e h = first_even n f (omega (arith, h (suc n) (omega arith) (omega arith))) (λ j l m. h j l (omega arith))

axes_halved : {d W : ℕ} {y : ℕ → ℕ → ℕ} {p : Point} (w u : ℕ → ℕ) → ((j : ℕ) → j ≤ d → w j ≡ 2 * u j) → Axes d y p (2 * W) w → Axes d y p W u
axes_halved {d} {W} {y} {p} w u e h = record {
  sum = omega (arith, sum_same (suc d) w (λ j. 2 * u j) (λ j l. e j (omega arith)), sum_scale 2 (suc d) u, h.sum);
  means = λ a l m. eq_of_mul-eq-mul_left 2 (omega arith) _ _ (sym (sum_same (suc d) (λ j. w j * y a j) (λ j. 2 * (u j * y a j)) (λ j i. rw (e j (omega arith)) (omega arith))
      ∙ sum_scale 2 (suc d) (λ j. u j * y a j)) ∙ h.means a l m ∙ omega arith);
}

-- weights at depth D, even past the split place
record Even (root path : List ℕ) (p : Point) (D : ℕ) : Type 0 where
  w : ℕ → ℕ
  axes : CellAxes root p path (box_side (length root) D) w
  even : (j : ℕ) → split_place (length root) D < j → j ≤ length root → w j % 2 ≡ 0

module _ (root : List ℕ) (good : GoodRoot root) {p : Point} (dims : length p ≡ length root) where
  start_even : In root p [] → Even root [] p 0
  unfolding box_side
  start_even i = let o = at_root (length root) (some_axes good.dimension) in record {
    w = root_weight p root;
    axes = rw (o.0, side_first) (falls_axes root good p dims (inside_falls root good p dims i));
    even = λ j l h. absurd (omega (arith, o.1));
  }

  step_even : (path : List ℕ) (b : ℕ) → length path < greatest_depth (length root) → Even root path p (length path) → In root p (path ++ b ∷ [])
      → Even root (path ++ b ∷ []) p (suc (length path))
  unfolding box_side
  step_even path b deep g i = go (deeper (length root) (length path) d0)
    where
      d0 : 0 < length root
      d0 = some_axes good.dimension

      u : ℕ → ℕ
      u = down b (split_of root path) g.w

      axes : CellAxes root p (path ++ b ∷ []) (side_of root path) u
      axes = step_down root good path b deep (half_fits root good dims path b deep g.axes i) g.axes

      evens : (j : ℕ) → split_of root path ≤ j → j ≤ length root → u j % 2 ≡ 0
      evens = down_even b (split_of root path) (length root) g.w (split_range (length root) (length path) d0).0 g.even

      go : Within (length root) (length path) ⊎ Turned (length root) (length path) → Even root (path ++ b ∷ []) p (suc (length path))
      go (inl s) = record { w = u; axes = rw s.box axes; even = λ j l h. evens j (omega (arith, s.split)) h }
      go (inr s) = record { w = λ j. u j / 2; axes = axes_halved u (λ j. u j / 2) twice (rw halves at axes); even = λ j l h. absurd (omega (arith, s.split)) }
        where
          halves : side_of root path ≡ 2 * box_side (length root) (suc (length path))
          halves = side_twice (box_depth (length root) (length path)) (box_under (length root) (length path) d0 deep) ∙ rw s.box refl

          twice : (j : ℕ) → j ≤ length root → u j ≡ 2 * (u j / 2)
          twice zero l = omega (arith, first_even (length root) u (rw (axes.sum, halves) (omega arith)) (λ j h m. evens j (omega (arith, s.last)) m))
          twice (suc j) l = omega (arith, evens (suc j) (omega (arith, s.last)) l)

  pub box_weights : (path : List ℕ) → length path ≤ greatest_depth (length root) → In root p path → BoxWeights root path p
  box_weights path deep i = let g = all path deep i in let h = axes_list (closed_form root path good deep).sized dims g.axes in
      record { ws = list_of (suc (length root)) g.w; weighs = h; most = weight_most h; others = λ k. weights_one root good dims path deep k h }
    where
      all : (path : List ℕ) → length path ≤ greatest_depth (length root) → In root p path → Even root path p (length path)
      all = by_steps root good (λ path. In root p path → Even root path p (length path)) start_even
          (λ path b deep ih i. rw (one_longer path b) (step_even path b deep (ih (in_parent root good dims path b deep i)) i))

  -- with the cube's side as their sum, the weights are those times how often the box's side goes into the cube's
  pub cube_weights : (path : List ℕ) → length path ≤ greatest_depth (length root) → {ws us : List ℕ}
      → Weighs (cell_of root path) p cube_side ws → Weighs (cell_of root path) p (side_of root path) us
      → (j : ℕ) → j ≤ length root → get_or ws j 0 ≡ 2 ^ box_depth (length root) (length path) * get_or us j 0
  unfolding box_side
  cube_weights path deep {ws} h g = weights_scaled root good dims path deep (2 ^ L) (side_pos L low) {ws = ws} (rw (side_whole L low) h) g
    where
      L : ℕ
      L = box_depth (length root) (length path)

      low : L ≤ halvings
      low = box_in (length root) (length path) (some_axes good.dimension) deep
