-- Weights as a function of the place, one axis at a time: what proofs use for the list of a reader.
use Rattle.std.specs.Prelude.{◌≡◌, refl, List, ℕ, zero, suc, ◌*◌, ◌≤◌, ◌<◌, length, get_or}
use Rattle.std.proofs.Math.Path.{sym}
use Rattle.std.proofs.Common.{ap, ◌∙◌, arith}
use Rattle.std.proofs.Math.Decide.{dec_lt}
use Rattle.std.proofs.Math.ListN.{get_or-eq_default}
use Rattle.bisection.specs.Cells.{Point, Cell}
use Rattle.bisection.specs.Weights.{total, weighted, Weighs, Inside}
use Rattle.bisection.specs.Theorems.Drawn.{Sized, along}
use Rattle.bisection.proofs.Theorems.Weights.Sums.{sum_same, term_most}
use Rattle.bisection.specs.Theorems.Weights.Axes.{Axes, list_of, mean}

pub mean_same : (d : ℕ) (w r r' : ℕ → ℕ) → ((j : ℕ) → r j ≡ r' j) → mean d w r ≡ mean d w r'
mean_same d w r r' e = sum_same (suc d) (λ j. w j * r j) (λ j. w j * r' j) (λ j l. ap (λ (x : ℕ). w j * x) (e j))

-- the same of functions that agree up to d
pub axes_same : {d : ℕ} {y : ℕ → ℕ → ℕ} {p : Point} {W : ℕ} (w u : ℕ → ℕ) → ((j : ℕ) → j ≤ d → w j ≡ u j) → Axes d y p W w → Axes d y p W u
axes_same {d} {y} w u e h = record {
  sum = sym (sum_same (suc d) w u (λ j l. e j (omega arith))) ∙ h.sum;
  means = λ a l m. sym (sum_same (suc d) (λ j. w j * y a j) (λ j. u j * y a j) (λ j l. ap (λ (x : ℕ). x * y a j) (e j (omega arith)))) ∙ h.means a l m;
}

pub list_length : (n : ℕ) (f : ℕ → ℕ) → length (list_of n f) ≡ n
unfolding list_of
list_length zero f = refl
list_length (suc n) f = ap suc (list_length n (λ j. f (suc j)))

pub list_at : (n : ℕ) (f : ℕ → ℕ) (j : ℕ) → j < n → get_or (list_of n f) j 0 ≡ f j
unfolding list_of
list_at zero f j l = absurd (omega arith)
list_at (suc n) f zero l = refl
list_at (suc n) f (suc j) l = list_at n (λ j. f (suc j)) j (omega arith)

module _ {d : ℕ} {vs : Cell} (z : Sized d vs) {p : Point} (dims : length p ≡ d) where
  pub weighs_axes : {W : ℕ} {ws : List ℕ} → Weighs vs p W ws → Axes d (along vs) p W (λ j. get_or ws j 0)
  unfolding total weighted
  weighs_axes {ws = ws} h = let e = h.count ∙ z.size in record { sum = rw e at h.sum; means = λ a l u. rw e at (h.mean a l (omega arith)) }

  pub axes_weighs : {W : ℕ} (ws : List ℕ) → length ws ≡ suc d → Axes d (along vs) p W (λ j. get_or ws j 0) → Weighs vs p W ws
  unfolding total weighted
  axes_weighs ws e h = record { count = e ∙ sym z.size; sum = rw e h.sum; mean = λ a l u. rw e (h.means a l (omega arith)) }

  pub axes_list : {W : ℕ} {w : ℕ → ℕ} → Axes d (along vs) p W w → Weighs vs p W (list_of (suc d) w)
  axes_list {w = w} h = axes_weighs (list_of (suc d) w) (list_length (suc d) w) (axes_same w _ (λ j l. sym (list_at (suc d) w j (omega arith))) h)

  pub axes_inside : {W : ℕ} {w : ℕ → ℕ} → 0 < W → Axes d (along vs) p W w → Inside vs p
  axes_inside {W} {w} l h = record { W = W; some = l; ws = list_of (suc d) w; weighs = axes_list h }

-- a weight is at most the sum
pub weight_most : {vs : Cell} {p : Point} {W : ℕ} {ws : List ℕ} → Weighs vs p W ws → (j : ℕ) → get_or ws j 0 ≤ W
unfolding total
weight_most {W = W} {ws = ws} h j = go (dec_lt j (length ws))
  where
    go : Dec (j < length ws) → get_or ws j 0 ≤ W
    go (yes l) = omega (arith, term_most (λ j. get_or ws j 0) (length ws) j l, h.sum)
    go (no l) = omega (arith, get_or-eq_default ws 0 {n = j} (omega arith))
