-- A cell's vertices are independent: weights of one sum that give the same point are the same weights, and weights of two sums are in
-- proportion. For along entry i the mean tells 2 B (i + 1) - B (h + 1), with h the larger of i and k: that gives B from k on, then
-- up to k, and with the first sums the weights.
use Rattle.std.specs.Prelude.{◌≡◌, Bool, true, false}
use Rattle.std.proofs.Common.{sym, ◌∙◌, arith}
use Rattle.std.proofs.Math.Path.{ap}
use Prim.Native.Nat.{ℕ, zero, suc, ◌+◌, ◌*◌, ◌%◌, ◌≤◌, ◌<◌}
use Rattle.std.proofs.Math.Nat.{eq_of_mul-eq-mul_left}
use Rattle.std.proofs.Math.Decide.{dec_lt}
use Rattle.dimension.specs.Sizes.{greatest_depth, split_place, box_side}
use Rattle.dimension.specs.Laws.{split_range, side_of}
use Rattle.bisection.specs.Cells.{Point, Cell}
use Rattle.bisection.specs.Codes.{axis, minus, Name}
use Rattle.bisection.specs.Weights.{sum_to}
use Rattle.bisection.specs.Theorems.Entries.{Signed}
use Rattle.bisection.specs.Theorems.Drawn.{Drawn, along, entry}
use Rattle.bisection.specs.Theorems.Geometry.{Moves}
use Rattle.bisection.proofs.Theorems.Weights.Sums.{sum_same, sum_scale}
use Rattle.bisection.specs.Theorems.Weights.Axes.{mean, Axes}
use Rattle.bisection.specs.Theorems.Weights.Offsets.{top}
use Rattle.bisection.proofs.Theorems.Weights.Offsets.{offset, offset_mean, mean_along}

-- what lies between the same two numbers is the same
same_move : (m : Bool) (x y : ℕ) {s s' : ℕ} → Moves m s x y → Moves m s' x y → s ≡ s'
same_move false x y h g = omega arith
same_move true x y h g = omega arith

module _ {d D : ℕ} {m : Name} {vs : Cell} (d0 : 0 < d) (deep : D ≤ greatest_depth d) (g : Signed d m.entries) (r : Drawn d D m vs) where
  k : ℕ
  k = split_place d D

  s : ℕ
  s = box_side d D

  kd : k ≤ d
  unfolding k
  kd = (split_range d D d0).1

  module _ (w u : ℕ → ℕ) (e : sum_to (suc d) w ≡ sum_to (suc d) u) (h : (a : ℕ) → 1 ≤ a → a ≤ d → mean d w (along vs a) ≡ mean d u (along vs a)) where
    offsets : (i : ℕ) → i < d → mean d w (offset s i k) ≡ mean d u (offset s i k)
    unfolding s k
    offsets i l = let a = axis (entry m i) in same_move (minus (entry m i)) (along vs a 0 * sum_to (suc d) u) (mean d u (along vs a))
        (rw (e, h a (g.low i l) (g.high i l)) at (mean_along d0 deep r i l w)) (mean_along d0 deep r i l u)

    -- along entry i
    told : (i : ℕ) → i < d → 2 * sum_to (suc i) w + sum_to (suc (top i k)) u ≡ 2 * sum_to (suc i) u + sum_to (suc (top i k)) w
    unfolding s k
    told i l = eq_of_mul-eq-mul_left s (side_of d D d0 deep).some _ _
        (omega (arith, offset_mean s i k d w even (omega arith) kd, offset_mean s i k d u even (omega arith) kd, offsets i l, ap (λ (x : ℕ). s * x) e))
      where
        even : k < d → s % 2 ≡ 0
        even = (side_of d D d0 deep).even

    at_top : (i n : ℕ) → top i k ≡ n → (f : ℕ → ℕ) → sum_to (suc (top i k)) f ≡ sum_to (suc n) f
    at_top i n e f = ap (λ (z : ℕ). sum_to (suc z) f) e

    from_split : (i : ℕ) → k ≤ i → i ≤ d → sum_to (suc i) w ≡ sum_to (suc i) u
    from_split i l n = go (dec_lt i d)
      where
        go : Dec (i < d) → sum_to (suc i) w ≡ sum_to (suc i) u
        go (yes q) = omega (arith, told i q, at_top i i (omega arith) w, at_top i i (omega arith) u)
        go (no q) = let f : i ≡ d = omega arith in rw f e

    fronts : (i : ℕ) → i ≤ d → sum_to (suc i) w ≡ sum_to (suc i) u
    fronts i l = go (dec_lt i k)
      where
        go : Dec (i < k) → sum_to (suc i) w ≡ sum_to (suc i) u
        go (yes q) = omega (arith, told i (omega (arith, kd)), at_top i k (omega arith) w, at_top i k (omega arith) u, from_split k (omega arith) kd)
        go (no q) = from_split i (omega arith) l

    same_weights : (j : ℕ) → j ≤ d → w j ≡ u j
    unfolding sum_to
    same_weights zero l = omega (arith, fronts 0 l)
    same_weights (suc j) l = omega (arith, fronts j (omega arith), fronts (suc j) l)

  -- of one sum, a point has one list of weights at most
  pub axes_one : {p : Point} {W : ℕ} {w u : ℕ → ℕ} → Axes d (along vs) p W w → Axes d (along vs) p W u → (j : ℕ) → j ≤ d → w j ≡ u j
  axes_one {w = w} {u = u} h g = same_weights w u (h.sum ∙ sym g.sum) (λ a l n. h.means a l n ∙ sym (g.means a l n))

  -- multiples have multiples of the mean
  mean_times : (c : ℕ) (w : ℕ → ℕ) (a : ℕ) → mean d (λ j. c * w j) (along vs a) ≡ c * mean d w (along vs a)
  mean_times c w a = sum_same (suc d) (λ j. c * w j * along vs a j) (λ j. c * (w j * along vs a j)) (λ j l. omega arith) ∙ sum_scale c (suc d) (λ j. w j * along vs a j)

  -- of two sums, the weights of a point are in proportion
  pub axes_scaled : {p : Point} {W U : ℕ} {w u : ℕ → ℕ} → Axes d (along vs) p W w → Axes d (along vs) p U u → (j : ℕ) → j ≤ d → U * w j ≡ W * u j
  axes_scaled {p} {W} {U} {w} {u} h g = same_weights (λ j. U * w j) (λ j. W * u j)
      (sum_scale U (suc d) w ∙ rw (h.sum, g.sum) (omega arith) ∙ sym (sum_scale W (suc d) u))
      (λ a l n. mean_times U w a ∙ rw (h.means a l n, g.means a l n) (omega arith) ∙ sym (mean_times W u a))
