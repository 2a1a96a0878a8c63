-- Sums of terms that moved.
use Rattle.std.specs.Prelude.{◌≡◌, refl, ℕ, zero, suc, ◌+◌, ◌≤◌, ◌<◌}
use native.Mathlib.Omega.{arith}
use Rattle.std.proofs.Math.Decide.{ℕ_discrete}
use borrow.Author.Tests.{eq-eqb, ne_eqb, lt-ltb, le-ltb}
use Rattle.bisection.specs.Weights.{sum_to}
use Rattle.bisection.specs.Theorems.Weights.Sums.{only}
use Rattle.bisection.proofs.Theorems.Weights.Sums.{sum_same, sum_add, sum_only}
use Rattle.points.specs.Theorems.Sums.{turn}

-- what is taken off at one place and put on at another changes no sum
pub sum_moved : (n i h c : ℕ) (f g : ℕ → ℕ) → i < n → h < n → ((j : ℕ) → j < n → f j + only i c j ≡ g j + only h c j) → sum_to n f ≡ sum_to n g
sum_moved n i h c f g l m e = omega (
  arith,
  sum_same n (λ j. f j + only i c j) (λ j. g j + only h c j) e,
  sum_add n f (only i c),
  sum_add n g (only h c),
  sum_only n i c l,
  sum_only n h c m,
)

module _ (k : ℕ) (f : ℕ → ℕ) (j : ℕ) where
  pub turn_before : j < k → turn k f j ≡ f (suc j)
  unfolding turn
  turn_before l = simp lt-ltb

  pub turn_at : j ≡ k → turn k f j ≡ f 0
  unfolding turn
  turn_at e = let h : k ≤ j = omega arith in simp (le-ltb, eq-eqb)

  pub turn_past : k < j → turn k f j ≡ f j
  unfolding turn
  turn_past l = let h : k ≤ j = omega arith in let e : j ≡ k → ⊥ = omega arith in simp (le-ltb, ne_eqb)

pub sum_turn : (k n : ℕ) (f : ℕ → ℕ) → k < n → sum_to n (turn k f) ≡ sum_to n f
unfolding sum_to
sum_turn k zero f l = absurd (omega arith)
sum_turn k (suc n) f l = go (ℕ_discrete n k) (sum_turn k n f)
  where
    front : (m : ℕ) → m ≤ k → sum_to m (turn k f) + f 0 ≡ sum_to (suc m) f
    front zero h = refl
    front (suc m) h = omega (arith, front m (omega arith), turn_before k f m (omega arith))

    go : Dec (n ≡ k) → (k < n → sum_to n (turn k f) ≡ sum_to n f) → sum_to n (turn k f) + turn k f n ≡ sum_to n f + f n
    go (yes e) t = omega (arith, front n (omega arith), turn_at k f n e)
    go (no e) t = omega (arith, turn_past k f n (omega arith), t (omega arith))
