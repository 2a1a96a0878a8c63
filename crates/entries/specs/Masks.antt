-- Bits of masks, one at a time: what the code's or, and and xor do to an orthant's axes.
use Rattle.std.specs.Prelude.{◌≡◌, refl, Bool, true, false, cond, ◌&&◌, ℕ, zero, suc, ◌-◌, ◌*◌, ◌/◌, ◌%◌, ◌^◌, max, ◌≤◌, ◌<◌, ◌≢◌, eqb, leb}
use Rattle.std.proofs.Common.{sym, ap, ◌∙◌, subst, mod-lt, zero-mul, one-mul, mod-eq_of_lt, pow_pos}
use native.Mathlib.Omega.{arith}
use Rattle.std.proofs.Math.Nat.{zero-div, div_self, div-eq_of_lt}
use Rattle.std.proofs.Math.Decide.{ℕ_discrete, dec_lt}
use Rattle.std.specs.Int.Bits.{bit_or, bit_and, and_zero_l, or_zero_l, or_zero_r}
use Rattle.std.proofs.lemmas.Nat.{and_shr, and_mod, or_shr, or_mod, or_lt, and_mask}
use Rattle.std.proofs.Math.Pow.{pow-lt}
use borrow.Author.Tests.{eq-eqb, ne_eqb, le-leb, lt-leb}
use Rattle.bisection.specs.Codes.{axis, minus, high}
use Rattle.bisection.proofs.Theorems.Orthants.{low_bit}

pub high_masked : (o a : ℕ) → eqb (bit_and (o / 2 ^ (a - 1)) 1) 1 ≡ high o a
unfolding high
high_masked o a = ap (λ (u : ℕ). eqb u 1) (and_mask (o / 2 ^ (a - 1)) 1)

-- the bit that a shift makes, in a number of b bits
pub shifted_bit : (b n : ℕ) → n < b → 1 * 2 ^ n % 2 ^ b ≡ 2 ^ n
shifted_bit b n h = let l : 2 ^ n < 2 ^ b = pow-lt {i = n} {j = b} h in rw (one-mul (2 ^ n)) (mod-eq_of_lt l)

-- bits of a join
bit_or_at : (a b j : ℕ) → bit_or a b / 2 ^ j % 2 ≡ max (a / 2 ^ j % 2) (b / 2 ^ j % 2)
bit_or_at a b j = rw (or_shr a b j) (or_mod (a / 2 ^ j) (b / 2 ^ j) 1 ∙ two (a / 2 ^ j % 2) (b / 2 ^ j % 2) (mod-lt (a / 2 ^ j) (omega arith)) (mod-lt (b / 2 ^ j) (omega arith)))
  where
    two : (x y : ℕ) → x < 2 → y < 2 → bit_or x y ≡ max x y
    two zero y h l = or_zero_l y ∙ sym (omega arith)
    two (suc zero) zero h l = refl
    two (suc zero) (suc zero) h l = refl
    two (suc zero) (suc (suc y)) h l = absurd (omega arith)
    two (suc (suc x)) y h l = absurd (omega arith)

-- bits of a meet
pub high_and : (o p a : ℕ) → high (bit_and o p) a ≡ (high o a && high p a)
unfolding high
high_and o p a = rw (and_shr o p (a - 1)) (ap (λ (x : ℕ). eqb x 1) (and_mod (o / 2 ^ (a - 1)) (p / 2 ^ (a - 1)) 1) ∙ two (o / 2 ^ (a - 1) % 2) (p / 2 ^ (a - 1) % 2) (mod-lt (o / 2 ^ (a - 1)) (omega arith)) (mod-lt (p / 2 ^ (a - 1)) (omega arith)))
  where
    two : (x y : ℕ) → x < 2 → y < 2 → eqb (bit_and x y) 1 ≡ (eqb x 1 && eqb y 1)
    two zero y h l = ap (λ (x : ℕ). eqb x 1) (and_zero_l y)
    two (suc zero) zero h l = refl
    two (suc zero) (suc zero) h l = refl
    two (suc zero) (suc (suc y)) h l = absurd (omega arith)
    two (suc (suc x)) y h l = absurd (omega arith)

-- the bits of a power of two
bit_power_at : (n : ℕ) → 2 ^ n / 2 ^ n % 2 ≡ 1
bit_power_at n = ap (λ (u : ℕ). u % 2) (div_self (pow_pos n))

bit_power_below : (n j : ℕ) → j < n → 2 ^ n / 2 ^ j % 2 ≡ 0
bit_power_below n j h = ap (λ (u : ℕ). u / 2 ^ j % 2) (omega arith) ∙ low_bit 1 n 0 j h ∙ rw (zero-div (2 ^ j)) refl

bit_power_above : (n j : ℕ) → n < j → 2 ^ n / 2 ^ j % 2 ≡ 0
bit_power_above n j h = ap (λ (u : ℕ). u % 2) (div-eq_of_lt (pow-lt {i = n} {j = j} h))

pub high_none : (a : ℕ) → high 0 a ≡ false
unfolding high
high_none a = rw (zero-div (2 ^ (a - 1))) refl

-- a raised bit is high, and no other bit changes
raised_high : (o b a : ℕ) → 1 ≤ b → 1 ≤ a → high (bit_or o (2 ^ (b - 1))) a ≡ cond (eqb a b) true (high o a)
unfolding high
raised_high o b a h l = rw (bit_or_at o (2 ^ (b - 1)) (a - 1)) (go (ℕ_discrete a b) (dec_lt a b))
  where
    x : ℕ
    x = o / 2 ^ (a - 1) % 2

    small : x < 2
    small = mod-lt (o / 2 ^ (a - 1)) (omega arith)

    same : max x 0 ≡ x
    same = omega arith

    go : Dec (a ≡ b) → Dec (a < b) → eqb (max x (2 ^ (b - 1) / 2 ^ (a - 1) % 2)) 1 ≡ cond (eqb a b) true (eqb x 1)
    go (yes e) f = rw (eq-eqb a b e) (ap (λ (u : ℕ). eqb (max x u) 1) (subst (λ (c : ℕ). 2 ^ (b - 1) / 2 ^ (c - 1) % 2 ≡ 1) (sym e) (bit_power_at (b - 1))) ∙ eq-eqb (max x 1) 1 (omega arith))
    go (no e) (yes f) = rw (ne_eqb a b e, bit_power_below (b - 1) (a - 1) (omega arith), same) refl
    go (no e) (no f) = rw (ne_eqb a b e, bit_power_above (b - 1) (a - 1) (omega arith), same) refl

-- the byte that is high on one axis, where a byte has a bit for it
unfoldable pub mark_of : ℕ → ℕ
mark_of a = cond (leb 1 a && leb a 8) (2 ^ (a - 1)) 0

pub mark_none : (a : ℕ) → a < 1 → mark_of a ≡ 0
unfolding mark_of
mark_none a h = rw (lt-leb 1 a h) refl

pub mark_over : (a : ℕ) → 8 < a → mark_of a ≡ 0
unfolding mark_of
mark_over a h = rw (lt-leb a 8 h) (go (leb 1 a))
  where
    go : (t : Bool) → cond (t && false) (2 ^ (a - 1)) 0 ≡ 0
    go true = refl
    go false = refl

pub mark_in : (a : ℕ) → 1 ≤ a → a ≤ 8 → mark_of a ≡ 2 ^ (a - 1)
unfolding mark_of
mark_in a h l = rw (le-leb 1 a h, le-leb a 8 l) refl

-- as the code makes it: the bit at the axis, one place down
pub mark_as : {a x : ℕ} → a ≡ x → a ≤ 8 → 1 * 2 ^ a % 2 ^ 32 / 2 ≡ mark_of x
mark_as {a} e l = ap (λ (y : ℕ). y / 2) (shifted_bit 32 a (omega arith)) ∙ go a l ∙ ap mark_of e
  where
    go : (a : ℕ) → a ≤ 8 → 2 ^ a / 2 ≡ mark_of a
    go zero l = sym (mark_none 0 (omega arith))
    go (suc a) l = half ∙ sym (mark_in (suc a) (omega arith) l ∙ ap (λ (n : ℕ). 2 ^ n) down)
      where
        half : 2 ^ suc a / 2 ≡ 2 ^ a
        half = omega arith

        down : suc a - 1 ≡ a
        down = omega arith

-- an entry with a minus; one that has none goes, and 0 stands in its place
unfoldable pub negated_alone : ℕ → ℕ
negated_alone e = cond (minus e) e 0

pub axis_none : axis 0 ≡ 0
unfolding axis minus
axis_none = refl

pub minus_alone : (e : ℕ) → minus e ≡ true → negated_alone e ≡ e
unfolding negated_alone
minus_alone e h = rw h refl

pub plus_alone : (e : ℕ) → minus e ≡ false → negated_alone e ≡ 0
unfolding negated_alone
plus_alone e h = rw h refl

-- as the code makes its mark: the bit of the minus, shifted to the axis
pub minus_mark_as : (e : ℕ) {s a : ℕ} → e < 256 → s ≡ e / 2 ^ 7 → a ≡ axis e → a ≤ 8 → s * 2 ^ a % 2 ^ 32 / 2 ≡ mark_of (axis (negated_alone e))
minus_mark_as e {s} {a} small f g l = go (dec_lt e 128)
  where
    go : Dec (e < 128) → s * 2 ^ a % 2 ^ 32 / 2 ≡ mark_of (axis (negated_alone e))
    go (yes h) = let none : s ≡ 0 = omega arith in
        rw (none, zero-mul (2 ^ a), plus_alone e (unfold minus in lt-leb 128 e h), axis_none) (sym (mark_none 0 (omega arith)))
    go (no h) = let one : s ≡ 1 = omega arith in rw (one, minus_alone e (unfold minus in le-leb 128 e (omega arith))) (mark_as g l)

-- a mark or-ed to a byte makes its axis high, and changes no other
module _ (o a : ℕ) where
  pub marked_high : (b : ℕ) → 1 ≤ b → b ≤ 8 → high (bit_or o (mark_of a)) b ≡ cond (eqb b a) true (high o b)
  marked_high b h l = go (dec_lt a 1) (dec_lt 8 a)
    where
      still : a ≢ b → mark_of a ≡ 0 → high (bit_or o (mark_of a)) b ≡ cond (eqb b a) true (high o b)
      still n e = rw (e, or_zero_r o, ne_eqb b a (λ q. n (sym q))) refl

      go : Dec (a < 1) → Dec (8 < a) → high (bit_or o (mark_of a)) b ≡ cond (eqb b a) true (high o b)
      go (yes p) q = still (omega arith) (mark_none a p)
      go (no p) (yes q) = still (omega arith) (mark_over a q)
      go (no p) (no q) = rw (mark_in a (omega arith) (omega arith)) (raised_high o a b (omega arith) h)

  pub marked_byte : o < 2 ^ 8 → bit_or o (mark_of a) < 2 ^ 8
  marked_byte h = or_lt 8 o (mark_of a) h (go (dec_lt a 1) (dec_lt 8 a))
    where
      go : Dec (a < 1) → Dec (8 < a) → mark_of a < 2 ^ 8
      go (yes p) q = rw (mark_none a p) (pow_pos 8)
      go (no p) (yes q) = rw (mark_over a q) (pow_pos 8)
      go (no p) (no q) = rw (mark_in a (omega arith) (omega arith)) (pow-lt {i = a - 1} {j = 8} (omega arith))
