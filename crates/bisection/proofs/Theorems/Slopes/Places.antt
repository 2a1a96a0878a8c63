-- A sum over all axes is one over all entries: a sum over the numbers below d is the same in any order.
use Rattle.std.specs.Prelude.{◌≡◌, List, ◌≢◌, ℕ, zero, suc, ◌-◌, ◌<◌, get_or}
use Rattle.std.proofs.Common.{sym, ap, ◌∙◌, arith}
use Rattle.bisection.specs.Codes.{axis}
use Rattle.bisection.specs.Weights.{sum_to}
use Rattle.bisection.specs.Theorems.Onto.{Taken}
use Rattle.bisection.proofs.Theorems.Onto.{onto}
use Rattle.bisection.specs.Theorems.Entries.{Signed}
use Rattle.bisection.specs.Theorems.Crossing.Skips.{skip}
use Rattle.bisection.proofs.Theorems.Crossing.Skips.{skip_other, skip_in, skip_one}
use Rattle.bisection.proofs.Theorems.Weights.Sums.{sum_same, sum_skip}

-- p takes the numbers below d to each other, no two to the same
pub sum_order : (d : ℕ) (p g : ℕ → ℕ) → ((i : ℕ) → i < d → p i < d) → ((i j : ℕ) → i < d → j < d → p i ≡ p j → i ≡ j) → sum_to d (λ i. g (p i)) ≡ sum_to d g
unfolding sum_to
sum_order zero p g r one = omega arith
sum_order (suc n) p g r one = omega (arith, sum_skip n t.place (λ i. g (p i)) (omega (arith, t.below)), ap g t.is, sum_order n (λ i. p (skip t.place i)) g below apart)
  where
    -- where the last number is taken
    t : Taken p n (suc n)
    t = onto (suc n) p r one n (omega arith)

    inside : (i : ℕ) → i < n → skip t.place i < suc n
    inside i l = omega (arith, skip_in t.place i {d = n} l, t.below)

    other : (i : ℕ) → i < n → p (skip t.place i) ≢ n
    other i l e = skip_other t.place i (one (skip t.place i) t.place (inside i l) t.below (e ∙ sym t.is))

    below : (i : ℕ) → i < n → p (skip t.place i) < n
    below i l = omega (arith, r (skip t.place i) (inside i l), other i l)

    apart : (i j : ℕ) → i < n → j < n → p (skip t.place i) ≡ p (skip t.place j) → i ≡ j
    apart i j l m e = skip_one t.place i j (one (skip t.place i) (skip t.place j) (inside i l) (inside j m) e)

-- the axes 1 .. d by the entries
pub axes_by_entries : {d : ℕ} {es : List ℕ} → Signed d es → (g : ℕ → ℕ) → sum_to d (λ t. g (suc t)) ≡ sum_to d (λ i. g (axis (get_or es i 0)))
axes_by_entries {d} {es} s g = sym (sum_order d (λ i. axis (get_or es i 0) - 1) (λ t. g (suc t)) (λ i l. omega (arith, s.low i l, s.high i l))
    (λ i j l n e. s.apart i j l n (omega (arith, s.low i l, s.low j n))))
    ∙ sum_same d (λ i. g (suc (axis (get_or es i 0) - 1))) (λ i. g (axis (get_or es i 0))) (λ i l. ap g (omega (arith, s.low i l)))
