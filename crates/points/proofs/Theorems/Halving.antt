-- The weights in a cell and those in its halves. With k the split place, weights u in a half give weights in the cell, of twice the
-- sum: each counts twice, and that of the midpoint once at either end of the edge that it halves. So a point of a half is one of the
-- cell, and weights in the cell that are twice w give back those in the half that the larger of w0 and wk tells.
use Rattle.std.specs.Prelude.{◌≡◌}
use Rattle.std.proofs.Math.Path.{refl, ap}
use Rattle.std.proofs.Common.{sym, ◌∙◌}
use Prim.Native.Nat.{ℕ, zero, suc, ◌+◌, ◌-◌, ◌*◌, ◌≤◌, ◌<◌}
use native.Mathlib.Omega.{arith}
use Rattle.std.proofs.Math.Nat.{eq_of_mul-eq-mul_left}
use Rattle.std.proofs.Math.Decide.{ℕ_discrete}
use borrow.Author.Tests.{eq-eqb, ne_eqb, lt-ltb, le-ltb}
use Rattle.bisection.specs.Cells.{Point, Cell, child}
use Rattle.bisection.specs.Theorems.Axis.{mid, row0, row1, Order, under, same, over}
use Rattle.bisection.proofs.Theorems.Axis.{row0_at, row0_other, row1_before, row1_at, row1_past, order}
use Rattle.bisection.specs.Theorems.Drawn.{along}
use Rattle.bisection.proofs.Theorems.Drawn.{child0_along, child1_along}
use Rattle.bisection.specs.Weights.{sum_to}
use Rattle.bisection.specs.Theorems.Weights.Sums.{only}
use Rattle.bisection.proofs.Theorems.Weights.Sums.{sum_same, sum_scale, only_at, only_other}
use Rattle.bisection.specs.Theorems.Weights.Axes.{mean, Axes}
use Rattle.bisection.proofs.Theorems.Weights.Axes.{mean_same}
use Rattle.points.specs.Theorems.Sums.{turn}
use Rattle.points.proofs.Theorems.Sums.{sum_moved, turn_before, turn_at, turn_past, sum_turn}
use Rattle.points.specs.Theorems.Halving.{Fits, Splits, down, row, up}

module _ (b k : ℕ) (k1 : 1 ≤ k) (u : ℕ → ℕ) where
  low_first : up 0 k u 0 ≡ 2 * u 0 + u k
  unfolding up
  low_first = refl

  low_last : up 0 k u k ≡ u k
  unfolding up
  low_last = let e : k ≡ 0 → ⊥ = omega arith in simp (ne_eqb, eq-eqb)

  low_other : (j : ℕ) → (j ≡ 0 → ⊥) → (j ≡ k → ⊥) → up 0 k u j ≡ 2 * u j
  unfolding up
  low_other j e f = simp ne_eqb

  high_first : up (suc b) k u 0 ≡ u k
  unfolding up
  high_first = refl

  high_last : up (suc b) k u k ≡ 2 * u (k - 1) + u k
  unfolding up
  high_last = let e : k ≡ 0 → ⊥ = omega arith in simp (ne_eqb, eq-eqb)

  high_before : (j : ℕ) → suc j < k → up (suc b) k u (suc j) ≡ 2 * u j
  unfolding up
  high_before j l = let e : suc j ≡ k → ⊥ = omega arith in let f : suc j ≡ 0 → ⊥ = omega arith in let g : suc j - 1 ≡ j = omega arith in simp (ne_eqb, lt-ltb, g)

  high_past : (j : ℕ) → k < j → up (suc b) k u j ≡ 2 * u j
  unfolding up
  high_past j l = let e : j ≡ k → ⊥ = omega arith in let f : j ≡ 0 → ⊥ = omega arith in let g : k ≤ j = omega arith in simp (ne_eqb, le-ltb)

-- the weighted sum of the half's coordinates is that of the cell's
module _ (d k : ℕ) (k1 : 1 ≤ k) (kd : k ≤ d) (u r : ℕ → ℕ) (half : 2 * mid (r 0) (r k) ≡ r 0 + r k) where
  -- place by place, but for the midpoint's weight at the ends of its edge
  low_place : (j : ℕ) → up 0 k u j * r j + only k (u k * r 0) j ≡ 2 * (u j * row 0 k r j) + only 0 (u k * r 0) j
  unfolding row
  low_place j = go (ℕ_discrete j 0) (ℕ_discrete j k)
    where
      go : Dec (j ≡ 0) → Dec (j ≡ k) → up 0 k u j * r j + only k (u k * r 0) j ≡ 2 * (u j * row0 k r j) + only 0 (u k * r 0) j
      go (yes e) f = let n : 0 ≡ k → ⊥ = omega arith in rw e (simp (low_first 0, only_other, row0_other, only_at 0 (u k * r 0) 0 refl) (omega arith))
      go (no e) (yes f) = let n : k ≡ 0 → ⊥ = omega arith in rw f (simp (low_last 0, only_at k (u k * r 0) k refl, row0_at k r k refl, only_other) (omega (arith, ap (λ (x : ℕ). u k * x) half)))
      go (no e) (no f) = simp (low_other 0, only_other, row0_other) (omega arith)

  high_place : (b j : ℕ) → turn k (λ i. up (suc b) k u i * r i) j + only k (u k * r k) j ≡ 2 * (u j * row (suc b) k r j) + only (k - 1) (u k * r k) j
  unfolding row
  high_place b j = go (order j k) (ℕ_discrete (suc j) k)
    where
      go : Order j k → Dec (suc j ≡ k) → turn k (λ i. up (suc b) k u i * r i) j + only k (u k * r k) j ≡ 2 * (u j * row1 k r j) + only (k - 1) (u k * r k) j
      go (under l) (yes e) = let n : j ≡ k → ⊥ = omega arith in let q : j ≡ k - 1 = omega arith in
          simp (turn_before, only_other, row1_before, only_at) (rw (e, high_last b k k1 u) (rw q (omega arith)))
      go (under l) (no e) = let n : j ≡ k → ⊥ = omega arith in let q : j ≡ k - 1 → ⊥ = omega arith in let m : suc j < k = omega arith in simp (turn_before, only_other, row1_before, high_before) (omega arith)
      go (same e) m = let q : j ≡ k - 1 → ⊥ = omega arith in simp (turn_at, only_at, row1_at, only_other, high_first) (rw e (omega (arith, ap (λ (x : ℕ). u k * x) half)))
      go (over l) m = let n : j ≡ k → ⊥ = omega arith in let q : j ≡ k - 1 → ⊥ = omega arith in simp (turn_past, only_other, row1_past, high_past) (omega arith)

  mean_up : (b : ℕ) → mean d (up b k u) r ≡ 2 * mean d u (row b k r)
  mean_up zero = sum_moved (suc d) k 0 (u k * r 0) (λ j. up 0 k u j * r j) (λ j. 2 * (u j * row 0 k r j)) (omega arith) (omega arith) (λ j l. low_place j)
      ∙ sum_scale 2 (suc d) (λ j. u j * row 0 k r j)
  mean_up (suc b) = sym (sum_turn k (suc d) (λ j. up (suc b) k u j * r j) (omega arith))
      ∙ sum_moved (suc d) k (k - 1) (u k * r k) (turn k (λ j. up (suc b) k u j * r j)) (λ j. 2 * (u j * row (suc b) k r j)) (omega arith) (omega arith) (λ j l. high_place b j)
      ∙ sum_scale 2 (suc d) (λ j. u j * row (suc b) k r j)

-- and so is the sum, where every coordinate is 1
abbrev ones : ℕ → ℕ
ones j = 1

row_ones : (b k j : ℕ) → row b k ones j ≡ 1
unfolding row
row_ones zero k j = go (ℕ_discrete j k)
  where
    go : Dec (j ≡ k) → row0 k ones j ≡ 1
    go (yes e) = row0_at k ones j e
    go (no e) = row0_other k ones j e
row_ones (suc b) k j = go (order j k)
  where
    go : Order j k → row1 k ones j ≡ 1
    go (under l) = row1_before k ones j l
    go (same e) = row1_at k ones j e
    go (over l) = row1_past k ones j l

mean_ones : (d : ℕ) (w r : ℕ → ℕ) → ((j : ℕ) → r j ≡ 1) → mean d w r ≡ sum_to (suc d) w
mean_ones d w r e = sum_same (suc d) (λ j. w j * r j) w (λ j l. rw (e j) (omega arith))

sum_up : (d k : ℕ) → 1 ≤ k → k ≤ d → (u : ℕ → ℕ) (b : ℕ) → sum_to (suc d) (up b k u) ≡ 2 * sum_to (suc d) u
sum_up d k k1 kd u b = omega (arith, mean_up d k k1 kd u ones refl b, mean_ones d (up b k u) ones (λ j. refl), mean_ones d u (row b k ones) (row_ones b k))

pub up_fits : (b k : ℕ) → 1 ≤ k → (u : ℕ → ℕ) → Fits b k (up b k u)
up_fits zero k k1 u = omega (arith, low_first 0 k k1 u, low_last 0 k k1 u)
up_fits (suc b) k k1 u = omega (arith, high_first b k k1 u, high_last b k k1 u)

module _ (b k : ℕ) (w : ℕ → ℕ) where
  pub low_down_first : 1 ≤ k → down 0 k w 0 ≡ w 0 - w k
  unfolding down
  low_down_first l = refl

  pub low_down_last : 1 ≤ k → down 0 k w k ≡ 2 * w k
  unfolding down
  low_down_last l = let e : k ≡ 0 → ⊥ = omega arith in simp (ne_eqb, eq-eqb)

  pub low_down_other : (j : ℕ) → (j ≡ 0 → ⊥) → (j ≡ k → ⊥) → down 0 k w j ≡ w j
  unfolding down
  low_down_other j e f = simp ne_eqb

  pub high_down_before : (j : ℕ) → suc j < k → down (suc b) k w j ≡ w (suc j)
  unfolding down
  high_down_before j l = let e : suc j ≡ k → ⊥ = omega arith in let h : j < k = omega arith in simp (lt-ltb, ne_eqb)

  pub high_down_rest : (j : ℕ) → suc j ≡ k → down (suc b) k w j ≡ w k - w 0
  unfolding down
  high_down_rest j e = let h : j < k = omega arith in simp (lt-ltb, eq-eqb)

  pub high_down_last : (j : ℕ) → j ≡ k → down (suc b) k w j ≡ 2 * w 0
  unfolding down
  high_down_last j e = let h : k ≤ j = omega arith in simp (le-ltb, eq-eqb)

  pub high_down_past : (j : ℕ) → k < j → down (suc b) k w j ≡ w j
  unfolding down
  high_down_past j l = let h : k ≤ j = omega arith in let e : j ≡ k → ⊥ = omega arith in simp (le-ltb, ne_eqb)

up_down : (b k : ℕ) → 1 ≤ k → (w : ℕ → ℕ) → Fits b k w → (j : ℕ) → up b k (down b k w) j ≡ 2 * w j
up_down zero k k1 w f j = go (ℕ_discrete j 0) (ℕ_discrete j k)
  where
    go : Dec (j ≡ 0) → Dec (j ≡ k) → up 0 k (down 0 k w) j ≡ 2 * w j
    go (yes e) g = rw e (low_first 0 k k1 (down 0 k w) ∙ rw (low_down_first 0 k w k1, low_down_last 0 k w k1) (omega arith))
    go (no e) (yes g) = rw g (low_last 0 k k1 (down 0 k w) ∙ low_down_last 0 k w k1)
    go (no e) (no g) = low_other 0 k k1 (down 0 k w) j e g ∙ ap (λ (x : ℕ). 2 * x) (low_down_other 0 k w j e g)
up_down (suc b) k k1 w f j = go j (order j k)
  where
    go : (j : ℕ) → Order j k → up (suc b) k (down (suc b) k w) j ≡ 2 * w j
    go zero o = high_first b k k1 (down (suc b) k w) ∙ high_down_last b k w k refl
    go (suc j) (under l) = high_before b k k1 (down (suc b) k w) j l ∙ ap (λ (x : ℕ). 2 * x) (high_down_before b k w j l)
    go (suc j) (same e) = rw e (high_last b k k1 (down (suc b) k w) ∙ rw (high_down_rest b k w (k - 1) (omega arith), high_down_last b k w k refl) (omega arith))
    go (suc j) (over l) = high_past b k k1 (down (suc b) k w) (suc j) l ∙ ap (λ (x : ℕ). 2 * x) (high_down_past b k w (suc j) l)

-- a half of it
module _ {d k : ℕ} {vs : Cell} (z : Splits d k vs) (b : ℕ) where
  half_row : (b a j : ℕ) → along (child b k vs) a j ≡ row b k (along vs a) j
  unfolding row
  half_row zero a j = child0_along d k vs z.sized z.last a j
  half_row (suc b) a j = child1_along d k vs z.sized z.last b a j

  pub half_mean : (u : ℕ → ℕ) (a : ℕ) → 1 ≤ a → a ≤ d → mean d (up b k u) (along vs a) ≡ 2 * mean d u (along (child b k vs) a)
  half_mean u a l m = mean_up d k z.first z.last u (along vs a) (omega (arith, z.whole a l m)) b ∙ ap (λ (x : ℕ). 2 * x) (sym (mean_same d u _ _ (half_row b a)))

  pub half_sum : (u : ℕ → ℕ) → sum_to (suc d) (up b k u) ≡ 2 * sum_to (suc d) u
  half_sum u = sum_up d k z.first z.last u b

  module _ {p : Point} {W : ℕ} where
    pub axes_up : {u : ℕ → ℕ} → Axes d (along (child b k vs)) p W u → Axes d (along vs) p (2 * W) (up b k u)
    axes_up {u} h = record { sum = half_sum u ∙ ap (λ (x : ℕ). 2 * x) h.sum; means = λ a l m. half_mean u a l m ∙ rw (h.means a l m) (omega arith) }

    pub axes_down : {w : ℕ → ℕ} → Fits b k w → Axes d (along vs) p W w → Axes d (along (child b k vs)) p W (down b k w)
    axes_down {w} f h = record {
      sum = omega (arith, half_sum u, sum_same (suc d) (up b k u) (λ j. 2 * w j) (λ j l. twice j), sum_scale 2 (suc d) w, h.sum);
      means = λ a l m. eq_of_mul-eq-mul_left 2 (omega arith) _ _ (sym (half_mean u a l m)
          ∙ sum_same (suc d) (λ j. up b k u j * along vs a j) (λ j. 2 * (w j * along vs a j)) (λ j i. rw (twice j) (omega arith))
          ∙ sum_scale 2 (suc d) (λ j. w j * along vs a j) ∙ ap (λ (x : ℕ). 2 * x) (h.means a l m));
    }
      where
        u : ℕ → ℕ
        u = down b k w

        twice : (j : ℕ) → up b k u j ≡ 2 * w j
        twice = up_down b k z.first w f
