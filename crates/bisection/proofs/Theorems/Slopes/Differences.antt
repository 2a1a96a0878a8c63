-- A whole number with a sign as a difference of two without one: equations of such numbers become equations that need no sign.
use Rattle.std.specs.Prelude.{◌≡◌, refl, ℕ, zero, suc, ◌+◌, ◌*◌, ◌≤◌, ◌<◌, ℤ, pos, negsuc, neg_ℤ, ◌+ℤ◌, ◌*ℤ◌}
use Rattle.std.proofs.Common.{ap, arith, lt-ltb, le-ltb}
use Rattle.std.proofs.Math.Decide.{dec_lt}
use Rattle.std.proofs.Math.IntN.{sub_ℕ}
use Rattle.bisection.specs.Weights.{sum_to}
use Rattle.bisection.specs.Slopes.{sumℤ}
use Rattle.bisection.specs.Theorems.Slopes.Differences.{Less, over, under}

pub less_own : (z : ℤ) → Less z (over z) (under z)
less_own z = record { is = omega arith }

-- one number is one difference
pub less_same : {z w : ℤ} {p q p' q' : ℕ} → Less z p q → Less w p' q' → z ≡ w → p + q' ≡ p' + q
less_same h g e = omega (arith, h.is, g.is, ap over e, ap under e)

less_move : {z : ℤ} {p q : ℕ} (p' q' : ℕ) → p + q' ≡ p' + q → Less z p q → Less z p' q'
less_move p' q' e h = record { is = omega (arith, h.is) }

-- and one difference one number
pub less_one : {z w : ℤ} {p q p' q' : ℕ} → Less z p q → Less w p' q' → p + q' ≡ p' + q → z ≡ w
less_one {z} {w} h g e = go z w (omega (arith, h.is, g.is))
  where
    go : (z w : ℤ) → over z + under w ≡ over w + under z → z ≡ w
    go (pos n) (pos m) e = ap pos (omega arith)
    go (pos n) (negsuc m) e = absurd (omega arith)
    go (negsuc n) (pos m) e = absurd (omega arith)
    go (negsuc n) (negsuc m) e = ap negsuc (omega arith)

pub less_sub : (p q : ℕ) → Less (sub_ℕ p q) p q
less_sub p q = go (dec_lt p q)
  where
    go : Dec (p < q) → Less (sub_ℕ p q) p q
    go (yes l) = rw (lt-ltb p q l) (record { is = omega arith })
    go (no l) = let h : q ≤ p = omega arith in rw (le-ltb p q h) (record { is = omega arith })

-- the other sign
pub less_neg : (z : ℤ) {p q : ℕ} → Less z p q → Less (neg_ℤ z) q p
less_neg (pos zero) h = record { is = omega (arith, h.is) }
less_neg (pos (suc n)) h = record { is = omega (arith, h.is) }
less_neg (negsuc n) h = record { is = omega (arith, h.is) }

pub less_add : (z w : ℤ) {p q p' q' : ℕ} → Less z p q → Less w p' q' → Less (z +ℤ w) (p + p') (q + q')
less_add (pos n) (pos m) h g = record { is = omega (arith, h.is, g.is) }
less_add (pos n) (negsuc m) {p} {q} {p'} {q'} h g = less_move (p + p') (q + q') (omega (arith, h.is, g.is)) (less_sub n (suc m))
less_add (negsuc n) (pos m) {p} {q} {p'} {q'} h g = less_move (p + p') (q + q') (omega (arith, h.is, g.is)) (less_sub m (suc n))
less_add (negsuc n) (negsuc m) h g = record { is = omega (arith, h.is, g.is) }

pub less_sum : (n : ℕ) (z : ℕ → ℤ) (p q : ℕ → ℕ) → ((j : ℕ) → j < n → Less (z j) (p j) (q j)) → Less (sumℤ n z) (sum_to n p) (sum_to n q)
unfolding sumℤ sum_to
less_sum zero z p q h = record { is = refl }
less_sum (suc n) z p q h = less_add (sumℤ n z) (z n) (less_sum n z p q (λ j l. h j (omega arith))) (h n (omega arith))

-- the product with a number that has no minus, and with one that has
pub less_times : (a : ℕ) (z : ℤ) {p q : ℕ} → Less z p q → Less (pos a *ℤ z) (a * p) (a * q)
less_times a (pos b) h = record { is = omega (arith, ap (λ (x : ℕ). a * x) h.is) }
less_times a (negsuc b) h = less_neg (pos (a * suc b)) (record { is = omega (arith, ap (λ (x : ℕ). a * x) h.is) })

less_minus_times : (a : ℕ) (z : ℤ) {p q : ℕ} → Less z p q → Less (negsuc a *ℤ z) (suc a * q) (suc a * p)
less_minus_times a (pos b) h = less_neg (pos (suc a * b)) (record { is = omega (arith, ap (λ (x : ℕ). suc a * x) h.is) })
less_minus_times a (negsuc b) h = record { is = omega (arith, ap (λ (x : ℕ). suc a * x) h.is) }

pub less_mul : (n z : ℤ) {p q : ℕ} → Less z p q → Less (n *ℤ z) (over n * p + under n * q) (over n * q + under n * p)
less_mul (pos a) z {p} {q} h = less_move (a * p + 0 * q) (a * q + 0 * p) (omega arith) (less_times a z h)
less_mul (negsuc a) z {p} {q} h = less_move (0 * p + suc a * q) (0 * q + suc a * p) (omega arith) (less_minus_times a z h)
