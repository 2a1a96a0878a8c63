-- A map of the numbers below d into themselves that takes no value twice takes every value: otherwise the
-- values but one, closed up, would fit d numbers into d - 1.
use Rattle.std.specs.Prelude.{◌≡◌, ◌≢◌, ℕ, zero, suc, ◌-◌, ◌≤◌, ◌<◌}
use Rattle.std.proofs.Common.{sym, subst}
use native.Mathlib.Omega.{arith}
use Rattle.std.proofs.Math.Decide.{dec_lt, ℕ_discrete}
use borrow.Author.Tests.{lt-ltb, le-ltb}
use Rattle.bisection.specs.Theorems.Onto.{Sought, Taken, close, found, none}

module _ (v x : ℕ) where
  close_over : v < x → close v x ≡ x - 1
  unfolding close
  close_over h = simp lt-ltb

  close_under : x < v → close v x ≡ x
  unfolding close
  close_under h = let l : x ≤ v = omega arith in simp le-ltb

  close_below : {m : ℕ} → x ≢ v → x ≤ m → v ≤ m → close v x < m
  close_below {m} n h l = go (dec_lt v x)
    where
      go : Dec (v < x) → close v x < m
      go (yes q) = rw (close_over q) (omega arith)
      go (no q) = let r : x < v = omega arith in rw (close_under r) (omega arith)

close_same : (v x y : ℕ) → x ≢ v → y ≢ v → close v x ≡ close v y → x ≡ y
close_same v x y n n' e = go (dec_lt v x) (dec_lt v y)
  where
    go : Dec (v < x) → Dec (v < y) → x ≡ y
    go (yes q) (yes r) = omega (arith, close_over v x q, close_over v y r)
    go (yes q) (no r) = omega (arith, close_over v x q, close_under v y (omega arith))
    go (no q) (yes r) = omega (arith, close_under v x (omega arith), close_over v y r)
    go (no q) (no r) = omega (arith, close_under v x (omega arith), close_under v y (omega arith))

no_squeeze : (m : ℕ) (f : ℕ → ℕ) → ((a : ℕ) → a ≤ m → f a < m) → ((a b : ℕ) → a ≤ m → b ≤ m → f a ≡ f b → a ≡ b) → ⊥
no_squeeze zero f r inj = omega (arith, r 0 (omega arith))
no_squeeze (suc m) f r inj = no_squeeze m (λ a. close (f (suc m)) (f a))
    (λ a l. close_below (f (suc m)) (f a) (other a l) (omega (arith, r a (omega arith))) (omega (arith, r (suc m) (omega arith))))
    (λ a b l l' e. inj a b (omega arith) (omega arith) (close_same (f (suc m)) (f a) (f b) (other a l) (other b l') e))
  where
    other : (a : ℕ) → a ≤ m → f a ≢ f (suc m)
    other a l e = omega (arith, inj a (suc m) (omega arith) (omega arith) e)

pub sought : (f : ℕ → ℕ) (v n : ℕ) → Sought f v n
sought f v zero = none (λ i l. absurd (omega arith))
sought f v (suc n) = go (ℕ_discrete (f n) v) (sought f v n)
  where
    go : Dec (f n ≡ v) → Sought f v n → Sought f v (suc n)
    go (yes e) s = found n (omega arith) e
    go (no e) (found i l q) = found i (omega arith) q
    go (no e) (none h) = none (λ i l. pick i l (ℕ_discrete i n))
      where
        pick : (i : ℕ) → i < suc n → Dec (i ≡ n) → f i ≢ v
        pick i l (yes q) = subst (λ (j : ℕ). f j ≢ v) (sym q) e
        pick i l (no q) = h i (omega arith)

pub onto : (d : ℕ) (f : ℕ → ℕ) → ((i : ℕ) → i < d → f i < d) → ((i j : ℕ) → i < d → j < d → f i ≡ f j → i ≡ j) → (v : ℕ) → v < d → Taken f v d
onto d f r inj v h = go (sought f v d)
  where
    go : Sought f v d → Taken f v d
    go (found i l e) = record { place = i; below = l; is = e }
    go (none n) = absurd (no_squeeze (d - 1) (λ i. close v (f i))
        (λ i l. close_below v (f i) (n i (omega arith)) (omega (arith, r i (omega arith))) (omega arith))
        (λ i j l l' e. inj i j (omega arith) (omega arith) (close_same v (f i) (f j) (n i (omega arith)) (n j (omega arith)) e)))
