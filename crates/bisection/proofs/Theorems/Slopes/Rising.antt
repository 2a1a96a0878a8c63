-- Along the entries. The numbers of a slope, each with its entry's sign, are p 0 less q 0, .. , p (d - 1) less q (d - 1). A vertex j up
-- to k is the first j entries' sides away from vertex 0, one past k their half sides. So the equations of vertex 0 and each other vertex
-- are equations of the first sums of p and q, and those say what p i less q i is, entry by entry.
use Rattle.std.specs.Prelude.{◌≡◌}
use Rattle.std.proofs.Common.{ap}
use Prim.Native.Nat.{ℕ, zero, suc, ◌+◌, ◌*◌, ◌/◌, ◌%◌, ◌≤◌, ◌<◌}
use native.Mathlib.Omega.{arith}
use Rattle.std.proofs.Math.Nat.{eq_of_mul-eq-mul_left}
use Rattle.std.proofs.Math.Decide.{dec_le}
use borrow.Author.Tests.{le-leb, lt-leb, lt-ltb, le-ltb, eq-eqb, ne_eqb}
use Rattle.bisection.specs.Weights.{sum_to}
use Rattle.bisection.specs.Theorems.Axis.{Order, under, same, over}
use Rattle.bisection.proofs.Theorems.Axis.{order}
use Rattle.bisection.specs.Theorems.Slopes.Rising.{falling, reach, rising}

module _ (f : ℕ → ℕ) (k i : ℕ) where
  pub rising_before : i < k → rising f k i ≡ f (suc i)
  unfolding rising
  rising_before h = simp lt-ltb

  pub rising_past : k ≤ i → rising f k i ≡ 2 * f (suc i)
  unfolding rising
  rising_past h = simp le-ltb

  pub falling_before : i < k → falling f k i ≡ f i
  unfolding falling
  falling_before h = simp lt-ltb (omega arith)

  pub falling_at : i ≡ k → falling f k i ≡ f i + f 0
  unfolding falling
  falling_at e = let h : k ≤ i = omega arith in simp (le-ltb, eq-eqb)

  pub falling_past : k < i → falling f k i ≡ 2 * f i
  unfolding falling
  falling_past l = let h : k ≤ i = omega arith in let n : i ≡ k → ⊥ = omega arith in simp (le-ltb, ne_eqb) (omega arith)

-- the equation of vertex 0 and vertex j, and what it says of the first sums
module _ (s k : ℕ) (f p q : ℕ → ℕ) where
  abbrev pub Balanced : ℕ → Type 0
  Balanced j = s * f j + reach s k j * sum_to j q ≡ s * f 0 + reach s k j * sum_to j p

  pub record Front (j : ℕ) : Type 0 where
    pub before : j ≤ k → f j + sum_to j q ≡ f 0 + sum_to j p
    pub past : k < j → 2 * f j + sum_to j q ≡ 2 * f 0 + sum_to j p

  module _ {d : ℕ} (some : 0 < s) (even : k < d → s % 2 ≡ 0) where
    halves : k < d → s ≡ 2 * (s / 2)
    halves l = omega (arith, even l)

    pub balanced_front : (j : ℕ) → j ≤ d → Balanced j → Front j
    balanced_front j l e = record {
      before = λ h. eq_of_mul-eq-mul_left s some _ _ (omega (arith, rw (le-leb j k h) at e));
      past = λ h. eq_of_mul-eq-mul_left (s / 2) (omega (arith, halves (omega arith))) _ _
          (omega (arith, rw (lt-leb j k h) at e, ap (λ (x : ℕ). x * f j) (halves (omega arith)), ap (λ (x : ℕ). x * f 0) (halves (omega arith))));
    }

    pub front_balanced : (j : ℕ) → j ≤ d → Front j → Balanced j
    front_balanced j l t = go (dec_le j k)
      where
        go : Dec (j ≤ k) → Balanced j
        go (yes h) = rw (le-leb j k h) (omega (arith, ap (λ (x : ℕ). s * x) (t.before h)))
        go (no h) = let u : k < j = omega arith in rw (lt-leb j k u)
            (omega (arith, ap (λ (x : ℕ). s / 2 * x) (t.past u), ap (λ (x : ℕ). x * f j) (halves (omega arith)), ap (λ (x : ℕ). x * f 0) (halves (omega arith))))

  -- entry i is what the first sums up to i + 1 have more than those up to i
  pub fronts_rise : (i : ℕ) → Front i → Front (suc i) → rising f k i + q i ≡ falling f k i + p i
  unfolding sum_to
  fronts_rise i a b = go (order i k)
    where
      go : Order i k → rising f k i + q i ≡ falling f k i + p i
      go (under h) = rw (rising_before f k i h, falling_before f k i h) (omega (arith, a.before (omega arith), b.before h))
      go (same h) = rw (rising_past f k i (omega arith), falling_at f k i h) (omega (arith, a.before (omega arith), b.past (omega arith)))
      go (over h) = rw (rising_past f k i (omega arith), falling_past f k i h) (omega (arith, a.past h, b.past (omega arith)))

  pub rise_fronts : (i : ℕ) → Front i → rising f k i + q i ≡ falling f k i + p i → Front (suc i)
  unfolding sum_to
  rise_fronts i a e = go (order i k)
    where
      go : Order i k → Front (suc i)
      go (under h) = record { before = λ l. omega (arith, a.before (omega arith), rw (rising_before f k i h, falling_before f k i h) at e); past = λ l. absurd (omega arith) }
      go (same h) = record { before = λ l. absurd (omega arith); past = λ l. omega (arith, a.before (omega arith), rw (rising_past f k i (omega arith), falling_at f k i h) at e) }
      go (over h) = record { before = λ l. absurd (omega arith); past = λ l. omega (arith, a.past h, rw (rising_past f k i (omega arith), falling_past f k i h) at e) }

  pub fronts : {d : ℕ} → ((i : ℕ) → i < d → rising f k i + q i ≡ falling f k i + p i) → (j : ℕ) → j ≤ d → Front j
  unfolding sum_to
  fronts h zero l = record { before = λ n. omega arith; past = λ n. absurd (omega arith) }
  fronts h (suc i) l = rise_fronts i (fronts h i (omega arith)) (h i l)
