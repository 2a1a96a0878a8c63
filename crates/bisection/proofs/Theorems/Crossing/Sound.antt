-- Which vertex of the frame across a vertex of a frame is, row by row, and that the two have the same coordinate on
-- every axis.
use Rattle.std.specs.Prelude.{◌≡◌, refl, Bool, ℕ, suc, ◌-◌, ◌*◌, ◌≤◌, ◌<◌}
use Rattle.std.proofs.Common.{sym, ◌∙◌, arith}
use Rattle.std.proofs.Math.Decide.{dec_lt, dec_le, ℕ_discrete}
use Rattle.bisection.specs.Theorems.Crossing.Rows.{row}
use Rattle.bisection.proofs.Theorems.Crossing.Rows.{row_before, row_in, row_past}
use Rattle.bisection.specs.Theorems.Crossing.Axes.{Fits}
use Rattle.bisection.specs.Theorems.Table.{Move, swap, nearer, farther, trade, left, right}
use Rattle.bisection.specs.Theorems.Crossing.Moves.{apply, Moved, is_near, is_far, is_left, is_trade, is_edge, is_right, is_swap}
use Rattle.bisection.proofs.Theorems.Crossing.Moves.{applies}
use Rattle.bisection.specs.Theorems.Crossing.Sound.{Allowed, Goes, RowAt, a_far, a_left, a_near, a_right, a_swap, a_trade, g_far, g_left, g_left_on, g_near, g_right, g_right_on, g_swap, g_trade}

pub allowed : {d k i : ℕ} {b : Bool} {m : Move} → 1 ≤ k → k ≤ d → i ≤ d → Moved d k i b m → Allowed d k m
allowed k1 kd il (is_near e) = a_near
allowed k1 kd il (is_far e z q) = a_far q
allowed k1 kd il (is_left e z q r) = a_left (omega arith)
allowed k1 kd il (is_trade e z q r) = a_trade (omega arith)
allowed {k = k} k1 kd il (is_edge e z q r) = a_swap {i = k} k1 (omega arith)
allowed k1 kd il (is_right e z q r) = a_right (omega arith)
allowed {i = i} k1 kd il (is_swap e z q) = a_swap {i = i} (omega arith) (omega arith)

-- two rows of coordinates, one value: the axis before or after its place in both, or turned round
module _ (k x y p q i j : ℕ) where
  row_move : (i < p → j < q) → (p ≤ i → q ≤ j) → (i ≤ k → j ≤ k) → (k < i → k < j) → row k p x y i ≡ row k q x y j
  row_move b a l h = go (dec_lt i p) (dec_le i k)
    where
      go : Dec (i < p) → Dec (i ≤ k) → row k p x y i ≡ row k q x y j
      go (yes u) v = row_before k p x y i u ∙ sym (row_before k q x y j (b u))
      go (no u) (yes v) = let w : p ≤ i = omega arith in row_in k p x y i w v ∙ sym (row_in k q x y j (a w) (l v))
      go (no u) (no v) = let w : p ≤ i = omega arith in let t : k < i = omega arith in row_past k p x y i w t ∙ sym (row_past k q x y j (a w) (h t))

  row_flip : p ≡ 1 → q ≡ suc k → 1 ≤ i → (i ≤ k → j ≤ k) → (k < i → k < j) → row k p x y i ≡ row k q y x j
  row_flip e f i1 l h = go (dec_le i k)
    where
      go : Dec (i ≤ k) → row k p x y i ≡ row k q y x j
      go (yes v) = row_in k p x y i (omega arith) v ∙ sym (row_before k q y x j (omega (arith, l v)))
      go (no v) = let t : k < i = omega arith in omega (arith, row_past k p x y i (omega arith) t, row_past k q y x j (omega (arith, h t)) (h t))

module _ {d k p x y : ℕ} (o : Fits d k p x y) (k1 : 1 ≤ k) where
  pub axis_sound : {m : Move} {j j' : ℕ} → Allowed d k m → Goes d k m j j' → j ≤ d → row k p x y j ≡ RowAt k (apply d k m p x y) j'
  axis_sound (a_swap {i = i} i1 id) (g_swap {j = j} n) l = go (ℕ_discrete p i) (ℕ_discrete p (suc i))
    where
      go : Dec (p ≡ i) → Dec (p ≡ suc i) → row k p x y j ≡ RowAt k (apply d k (swap i) p x y) j
      go (yes e) f = simp applies (row_move k x y p (suc i) j j (omega arith) (omega arith) (omega arith) (omega arith))
      go (no e) (yes f) = simp applies (row_move k x y p i j j (omega arith) (omega arith) (omega arith) (omega arith))
      go (no e) (no f) = simp applies
  axis_sound a_near (g_near {j = j} n) l = go (ℕ_discrete p d)
    where
      go : Dec (p ≡ d) → row k p x y j ≡ RowAt k (apply d k nearer p x y) j
      go (yes e) = simp applies (row_before k p x y j (omega arith) ∙ sym (row_before k p x (2 * x - y) j (omega arith)))
      go (no e) = simp applies
  axis_sound (a_far q) (g_far {j = j} n) l = go (ℕ_discrete p 1)
    where
      go : Dec (p ≡ 1) → row k p x y j ≡ RowAt k (apply d k farther p x y) j
      go (yes e) = simp applies (row_in k p x y j (omega arith) (omega arith) ∙ sym (row_in k p (2 * y - x) y j (omega arith) (omega arith)))
      go (no e) = simp applies
  axis_sound (a_trade kd) (g_trade {j = j} n) l = go (ℕ_discrete p 1) (ℕ_discrete p (suc k))
    where
      go : Dec (p ≡ 1) → Dec (p ≡ suc k) → row k p x y j ≡ RowAt k (apply d k trade p x y) j
      go (yes e) f = simp applies (row_flip k x y p (suc k) j j e refl (omega arith) (omega arith) (omega arith))
      go (no e) (yes f) = simp applies (sym (row_flip k y x 1 p j j refl f (omega arith) (omega arith) (omega arith)))
      go (no e) (no f) = simp applies
  axis_sound (a_left kd) (g_left {j = j} n) l = go (ℕ_discrete p 1) (dec_le p (suc k))
    where
      go : Dec (p ≡ 1) → Dec (p ≤ suc k) → row k p x y (suc j) ≡ RowAt k (apply d k left p x y) j
      go (yes e) f = simp applies (row_flip k x y p (suc k) (suc j) j e refl (omega arith) (omega arith) (omega arith))
      go (no e) (yes f) = let h : 2 ≤ p = omega (arith, o.first) in simp applies (row_move k x y p (p - 1) (suc j) j (omega arith) (omega arith) (omega arith) (omega arith))
      go (no e) (no f) = let h : suc k < p = omega arith in simp applies (row_move k x y p p (suc j) j (omega arith) (omega arith) (omega arith) (omega arith))
  axis_sound (a_left kd) (g_left_on {j = j} n) l = go (ℕ_discrete p 1) (dec_le p (suc k))
    where
      go : Dec (p ≡ 1) → Dec (p ≤ suc k) → row k p x y j ≡ RowAt k (apply d k left p x y) j
      go (yes e) f = simp applies (row_flip k x y p (suc k) j j e refl (omega arith) (omega arith) (omega arith))
      go (no e) (yes f) = let h : 2 ≤ p = omega (arith, o.first) in simp applies (row_move k x y p (p - 1) j j (omega arith) (omega arith) (omega arith) (omega arith))
      go (no e) (no f) = let h : suc k < p = omega arith in simp applies
  axis_sound (a_right kd) (g_right {j = j} n) l = go (ℕ_discrete p (suc k)) (dec_le p k)
    where
      go : Dec (p ≡ suc k) → Dec (p ≤ k) → row k p x y j ≡ RowAt k (apply d k right p x y) (suc j)
      go (yes e) f = simp applies (sym (row_flip k y x 1 p (suc j) j refl e (omega arith) (omega arith) (omega arith)))
      go (no e) (yes f) = simp applies (row_move k x y p (suc p) j (suc j) (omega arith) (omega arith) (omega arith) (omega arith))
      go (no e) (no f) = let h : suc k < p = omega arith in simp applies (row_move k x y p p j (suc j) (omega arith) (omega arith) (omega arith) (omega arith))
  axis_sound (a_right kd) (g_right_on {j = j} n) l = go (ℕ_discrete p (suc k)) (dec_le p k)
    where
      go : Dec (p ≡ suc k) → Dec (p ≤ k) → row k p x y j ≡ RowAt k (apply d k right p x y) j
      go (yes e) f = simp applies (sym (row_flip k y x 1 p j j refl e (omega arith) (omega arith) (omega arith)))
      go (no e) (yes f) = simp applies (row_move k x y p (suc p) j j (omega arith) (omega arith) (omega arith) (omega arith))
      go (no e) (no f) = let h : suc k < p = omega arith in simp applies
