-- Sums over the axes below d, and permutations of their places: of the d axes exactly j stand at places up to j, so
-- a count over the axes tells a place.
use Rattle.std.specs.Prelude.{◌≡◌, ◌≢◌}
use Rattle.std.proofs.Math.Path.{refl}
use Rattle.std.proofs.Common.{sym, ap, ◌∙◌, subst, arith}
use Prim.Native.Nat.{ℕ, zero, suc, ◌+◌, ◌-◌, ◌≤◌, ◌<◌}
use Rattle.std.proofs.Math.Decide.{ℕ_discrete}
use Rattle.bisection.specs.Theorems.Crossing.Sums.{Perm, sum, up_to}

module _ (f g : ℕ → ℕ) where
  pub sum_same : (d : ℕ) → ((a : ℕ) → a < d → f a ≡ g a) → sum f d ≡ sum g d
  unfolding sum
  sum_same zero h = refl
  sum_same (suc n) h = omega (arith, h n (omega arith), sum_same n (λ a l. h a (omega arith)))

pub sum_plus : (f g h : ℕ → ℕ) (d : ℕ) → ((a : ℕ) → a < d → f a ≡ g a + h a) → sum f d ≡ sum g d + sum h d
unfolding sum
sum_plus f g h zero e = omega arith
sum_plus f g h (suc n) e = omega (arith, e n (omega arith), sum_plus f g h n (λ a l. e a (omega arith)))

pub sum_none : (f : ℕ → ℕ) (d : ℕ) → ((a : ℕ) → a < d → f a ≡ 0) → sum f d ≡ 0
unfolding sum
sum_none f zero e = omega arith
sum_none f (suc n) e = omega (arith, e n (omega arith), sum_none f n (λ a l. e a (omega arith)))

pub sum_one : (f : ℕ → ℕ) (d x : ℕ) → x < d → f x ≡ 1 → ((a : ℕ) → a < d → a ≢ x → f a ≡ 0) → sum f d ≡ 1
unfolding sum
sum_one f zero x l e o = absurd (omega arith)
sum_one f (suc n) x l e o = go (ℕ_discrete x n) (λ q. sum_one f n x q e (λ a l. o a (omega arith)))
  where
    go : Dec (x ≡ n) → (x < n → sum f n ≡ 1) → f n + sum f n ≡ 1
    go (yes q) ih = omega (arith, subst (λ (y : ℕ). f y ≡ 1) q e, sum_none f n (λ a l. o a (omega arith) (omega arith)))
    go (no q) ih = omega (arith, o n (omega arith) (omega arith), ih (omega arith))

module _ {d : ℕ} {p q : ℕ → ℕ} (m : Perm d p q) where
  pub same_place : (a b : ℕ) → a < d → b < d → p a ≡ p b → a ≡ b
  same_place a b la lb e = sym (m.again a la) ∙ ap q e ∙ m.again b lb

  pub at_axis : (a t : ℕ) → a < d → p a ≡ t → a ≡ q t
  at_axis a t l e = sym (m.again a l) ∙ ap q e

  pub count : (j : ℕ) → j ≤ d → sum (λ a. up_to j (p a)) d ≡ j
  count zero l = sum_none (λ a. up_to 0 (p a)) d (λ a la. omega (arith, m.first a la))
  count (suc j) l = omega (arith, total, count j (omega arith), one)
    where
      at : ℕ → ℕ
      at a = 1 - ((p a - suc j) + (suc j - p a))

      one : sum at d ≡ 1
      one = sum_one at d (q (suc j)) (m.axis (suc j) (omega arith) l) (omega (arith, m.back (suc j) (omega arith) l)) (λ a la o. other a la o)
        where
          other : (a : ℕ) → a < d → a ≢ q (suc j) → at a ≡ 0
          other a la o = go (ℕ_discrete (p a) (suc j))
            where
              go : Dec (p a ≡ suc j) → at a ≡ 0
              go (yes e) = absurd (o (at_axis a (suc j) la e))
              go (no e) = omega arith

      total : sum (λ a. up_to (suc j) (p a)) d ≡ sum (λ a. up_to j (p a)) d + sum at d
      total = sum_plus (λ a. up_to (suc j) (p a)) (λ a. up_to j (p a)) at d (λ a la. omega arith)
