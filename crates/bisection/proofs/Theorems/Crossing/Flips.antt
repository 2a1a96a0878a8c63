-- An orthant byte with one bit flipped: that bit is the other, every other bit is as it was, and no bit comes to
-- stand at d or above.
use Rattle.std.specs.Prelude.{◌≡◌, Bool, true, false, not, ◌≢◌}
use Rattle.std.proofs.Common.{sym, ◌∙◌, subst, arith, mod-lt, mul-le-mul_right, one-add, pow_pos, pow-add, shr_lt, shr-shr, eq-eqb, ne_eqb}
use Rattle.std.proofs.Math.Path.{ap}
use Prim.Native.Nat.{ℕ, suc, ◌+◌, ◌-◌, ◌*◌, ◌/◌, ◌%◌, ◌^◌, ◌≤◌, ◌<◌}
use Rattle.std.proofs.Math.Decide.{dec_lt, ℕ_discrete}
use Rattle.std.proofs.Math.Dec.{eqb}
use Rattle.std.proofs.Math.Pow.{split, high as high_part}
use Rattle.bisection.specs.Codes.{high}
use Rattle.bisection.proofs.Theorems.Orthants.{low_bit}
use Rattle.bisection.specs.Theorems.Table.{flipped}
use Rattle.bisection.specs.Theorems.Crossing.Flips.{Parts, digit}

take_one : (P o u r : ℕ) → o ≡ (2 * u + 1) * P + r → o - P ≡ (2 * u + 0) * P + r
take_one P o u r e = omega arith

add_one : (P o u r : ℕ) → o ≡ (2 * u + 0) * P + r → o + P ≡ (2 * u + 1) * P + r
add_one P o u r e = omega arith

pub parts : (a o : ℕ) → Parts a o
unfolding flipped high
parts a o = go (ℕ_discrete (q % 2) 1)
  where
    P : ℕ
    P = 2 ^ (a - 1)

    q : ℕ
    q = o / P

    whole : (t : Bool) → 2 * (q / 2) + digit t ≡ q → o ≡ (2 * (q / 2) + digit t) * P + o % P
    whole t e = sym (split o (a - 1)) ∙ ap (λ (x : ℕ). x * P + o % P) (sym e)

    go : Dec (q % 2 ≡ 1) → Parts a o
    go (yes e) = let w : o ≡ (2 * (q / 2) + 1) * P + o % P = whole true (omega arith) in record {
      bit = true;
      above = q / 2;
      below = o % P;
      is = eq-eqb (q % 2) 1 e;
      low = mod-lt o (pow_pos (a - 1));
      byte = w;
      flip = rw (eq-eqb (q % 2) 1 e) (take_one P o (q / 2) (o % P) w);
    }
    go (no e) = let w : o ≡ (2 * (q / 2) + 0) * P + o % P = whole false (omega arith) in record {
      bit = false;
      above = q / 2;
      below = o % P;
      is = ne_eqb (q % 2) 1 e;
      low = mod-lt o (pow_pos (a - 1));
      byte = w;
      flip = rw (ne_eqb (q % 2) 1 e) (add_one P o (q / 2) (o % P) w);
    }

-- the bits of a byte (2 u + t) 2^i + r: the bit at i, the bits below it, the bits above it
bit_at : (u i r : ℕ) (t : Bool) → r < 2 ^ i → eqb (((2 * u + digit t) * 2 ^ i + r) / 2 ^ i % 2) 1 ≡ t
bit_at u i r t h = rw (high_part (2 * u + digit t) i h) (go t)
  where
    go : (t : Bool) → eqb ((2 * u + digit t) % 2) 1 ≡ t
    go true = eq-eqb ((2 * u + 1) % 2) 1 (omega arith)
    go false = ne_eqb ((2 * u + 0) % 2) 1 (omega arith)

bit_over : (u i r e : ℕ) (t : Bool) → r < 2 ^ i → ((2 * u + digit t) * 2 ^ i + r) / 2 ^ (i + suc e) ≡ u / 2 ^ e
bit_over u i r e t h = sym (shr-shr ((2 * u + digit t) * 2 ^ i + r) i (suc e)) ∙ ap (λ (x : ℕ). x / 2 ^ suc e) (high_part (2 * u + digit t) i h)
    ∙ ap (λ (x : ℕ). (2 * u + digit t) / 2 ^ x) (sym (one-add e)) ∙ sym (shr-shr (2 * u + digit t) 1 e) ∙ ap (λ (x : ℕ). x / 2 ^ e) (half t)
  where
    half : (t : Bool) → (2 * u + digit t) / 2 ^ 1 ≡ u
    half true = omega arith
    half false = omega arith

module _ (a o : ℕ) where
  p : Parts a o
  p = parts a o

  pub flipped_at : high (flipped a o) a ≡ not (high o a)
  unfolding p
  flipped_at = rw (p.is, p.flip) (unfold high in bit_at p.above (a - 1) p.below (not p.bit) p.low)

  pub flipped_other : (b : ℕ) → 1 ≤ a → 1 ≤ b → b ≢ a → high (flipped a o) b ≡ high o b
  unfolding p high
  flipped_other b a1 b1 n = ap (λ (x : ℕ). eqb (x / 2 ^ (b - 1) % 2) 1) p.flip ∙ go (dec_lt (b - 1) (a - 1)) ∙ ap (λ (x : ℕ). eqb (x / 2 ^ (b - 1) % 2) 1) (sym p.byte)
    where
      i : ℕ
      i = a - 1

      r : ℕ
      r = p.below

      hi : Bool → ℕ
      hi t = 2 * p.above + digit t

      go : Dec (b - 1 < i) → eqb ((hi (not p.bit) * 2 ^ i + r) / 2 ^ (b - 1) % 2) 1 ≡ eqb ((hi p.bit * 2 ^ i + r) / 2 ^ (b - 1) % 2) 1
      go (yes l) = ap (λ (x : ℕ). eqb x 1) (low_bit (hi (not p.bit)) i r (b - 1) l ∙ sym (low_bit (hi p.bit) i r (b - 1) l))
      go (no l) = ap (λ (x : ℕ). eqb (x % 2) 1) (over (not p.bit) ∙ sym (over p.bit))
        where
          e : ℕ
          e = b - suc a

          up : i + suc e ≡ b - 1
          up = omega arith

          over : (t : Bool) → (hi t * 2 ^ i + r) / 2 ^ (b - 1) ≡ p.above / 2 ^ e
          over t = subst (λ (x : ℕ). (hi t * 2 ^ i + r) / 2 ^ x ≡ p.above / 2 ^ e) up (bit_over p.above i r e t p.low)

  -- a flip makes no bit at d or above
  pub flipped_fits : (d : ℕ) → 1 ≤ a → a ≤ d → o < 2 ^ d → flipped a o < 2 ^ d
  unfolding p
  flipped_fits d a1 ad h = rw (p.flip, whole) (under p.above (not p.bit) E P p.below few p.low)
    where
      P : ℕ
      P = 2 ^ (a - 1)

      E : ℕ
      E = 2 ^ (d - a)

      sum : suc (d - a) + (a - 1) ≡ d
      sum = omega arith

      whole : 2 ^ d ≡ 2 * E * P
      whole = ap (λ (x : ℕ). 2 ^ x) (sym sum) ∙ pow-add 2 (suc (d - a)) (a - 1) ∙ ap (λ (x : ℕ). x * P) (omega arith)

      top : 2 * p.above + digit p.bit ≡ o / P
      top = sym (high_part (2 * p.above + digit p.bit) (a - 1) p.low) ∙ ap (λ (x : ℕ). x / P) (sym p.byte)

      less : o / P < 2 * E
      less = subst (λ (x : ℕ). o / P < x) (omega arith) (shr_lt (suc (d - a)) (a - 1) (subst (λ (x : ℕ). o < 2 ^ x) (sym sum) h))

      few : p.above < E
      few = omega (arith, top, less)

      under : (u : ℕ) (t : Bool) (E P r : ℕ) → u < E → r < P → (2 * u + digit t) * P + r < 2 * E * P
      under u true E P r l q = omega (arith, mul-le-mul_right {m = 2 * u + 2} {n = 2 * E} P (omega arith))
      under u false E P r l q = omega (arith, mul-le-mul_right {m = 2 * u + 2} {n = 2 * E} P (omega arith))
