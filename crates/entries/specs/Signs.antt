-- Signed entries as whole numbers, as the code holds them in an i8: the axis with its sign.
use Rattle.std.specs.Prelude.{◌≡◌, cond, ℕ, zero, suc, ◌+◌, ◌-◌, ◌≤◌, ◌<◌, ℤ, pos, negsuc, neg_ℤ, ◌-ℤ◌}
use Rattle.std.proofs.Math.Path.{refl}
use Rattle.std.proofs.Common.{sym, ◌∙◌, subst}
use Rattle.std.proofs.Math.Bool.{true, false}
use native.Mathlib.Omega.{arith}
use Rattle.std.proofs.Math.Decide.{dec_le}
use Rattle.std.proofs.Math.IntN.{nat_abs, +ℤ_idl, neg_ℤ-neg_ℤ}
use Rattle.std.specs.Int.Signed.{lt_z, non_neg}
use Rattle.std.proofs.Math.Dec.{T}
use mir.Syntax.{w8}
use mir.Val.{SFits, Fits, to_z, of_z}
use Rattle.std.proofs.lemmas.Int.{to_z-of_z, to_z_pos}
use borrow.Author.Tests.{le-leb, lt-leb, ltb-true, ltb-false}
use Rattle.bisection.specs.Codes.{axis, minus, negated}

unfoldable pub signed_of : ℕ → ℤ
signed_of e = cond (minus e) (neg_ℤ (pos (axis e))) (pos (axis e))

-- with a minus for 0, which no axis is
unfoldable pub byte_of : ℤ → ℕ
byte_of (pos zero) = 128
byte_of (pos (suc n)) = suc n
byte_of (negsuc n) = 128 + suc n

pub signed_plus : (e : ℕ) → e < 128 → signed_of e ≡ pos e
unfolding signed_of minus axis
signed_plus e h = rw (lt-leb 128 e h) refl

pub signed_minus : (e : ℕ) → 128 ≤ e → signed_of e ≡ neg_ℤ (pos (e - 128))
unfolding signed_of minus axis
signed_minus e h = rw (le-leb 128 e h) refl

-- the negation of a plus entry is that of its number
pub byte_negated : (e : ℕ) → e < 128 → byte_of (neg_ℤ (signed_of e)) ≡ negated e
unfolding negated minus
byte_negated e h = rw (signed_plus e h, lt-leb 128 e h) (plus e)
  where
    plus : (n : ℕ) → byte_of (neg_ℤ (pos n)) ≡ n + 128
    plus zero = unfold byte_of in refl
    plus (suc n) = unfold byte_of in omega arith

pub signed_fits : (e : ℕ) → e < 256 → SFits w8 (signed_of e)
signed_fits e h = go (dec_le 128 e)
  where
    neg : (n : ℕ) → n < 128 → SFits w8 (neg_ℤ (pos n))
    neg zero q = record { sfits = omega arith }
    neg (suc n) q = record { sfits = omega arith }

    go : Dec (128 ≤ e) → SFits w8 (signed_of e)
    go (yes q) = rw (signed_minus e q) (neg (e - 128) (omega arith))
    go (no q) = let t : e < 128 = omega arith in rw (signed_plus e t) (record { sfits = omega arith })

-- what the i8 arithmetic of the code computes
module _ (x : ℤ) (f : SFits w8 x) where
  pub held : to_z w8 (of_z w8 x) ≡ x
  held = to_z-of_z w8 x f

  pub negative : pos 0 -ℤ to_z w8 (of_z w8 x) ≡ neg_ℤ x
  negative = rw held (+ℤ_idl (neg_ℤ x))

-- a positive number's entry
module _ (x : ℤ) (f : SFits w8 x) (l : lt_z (pos 0) (to_z w8 (of_z w8 x)) ≡ true) where
  pub plus_byte : (T (non_neg (to_z w8 (of_z w8 x))) × Fits w8 (nat_abs (to_z w8 (of_z w8 x)))) × (nat_abs (to_z w8 (of_z w8 x)) ≡ byte_of x)
  unfolding byte_of
  plus_byte = rw (held x f) (go x f (rw (held x f) at l))
    where
      go : (x : ℤ) → SFits w8 x → lt_z (pos 0) x ≡ true → (T (non_neg x) × Fits w8 (nat_abs x)) × (nat_abs x ≡ byte_of x)
      go (pos zero) f l = absurd (omega (arith, ltb-true 0 0 l))
      go (pos (suc n)) f l = ((tt, record { fits = omega (arith, f.sfits) }), refl)
      go (negsuc n) f l = absurd (subst T (sym l) tt)

-- another's
module _ (x : ℤ) (f : SFits w8 x) (g : SFits w8 (neg_ℤ x)) (l : lt_z (pos 0) (to_z w8 (of_z w8 x)) ≡ false) where
  opposite : to_z w8 (of_z w8 (pos 0 -ℤ to_z w8 (of_z w8 x))) ≡ neg_ℤ x
  opposite = rw (negative x f) (held (neg_ℤ x) g)

  pub minus_size : T (non_neg (to_z w8 (of_z w8 (pos 0 -ℤ to_z w8 (of_z w8 x))))) × Fits w8 (nat_abs (to_z w8 (of_z w8 (pos 0 -ℤ to_z w8 (of_z w8 x)))))
  minus_size = rw opposite (go x g (rw (held x f) at l))
    where
      go : (x : ℤ) → SFits w8 (neg_ℤ x) → lt_z (pos 0) x ≡ false → T (non_neg (neg_ℤ x)) × Fits w8 (nat_abs (neg_ℤ x))
      go (pos zero) g l = (tt, record { fits = omega arith })
      go (pos (suc n)) g l = absurd (omega (arith, ltb-false 0 (suc n) l))
      go (negsuc n) g l = (tt, record { fits = omega (arith, g.sfits) })

  pub minus_byte : Fits w8 (128 + nat_abs (to_z w8 (of_z w8 (pos 0 -ℤ to_z w8 (of_z w8 x))))) × (128 + nat_abs (to_z w8 (of_z w8 (pos 0 -ℤ to_z w8 (of_z w8 x)))) ≡ byte_of x)
  unfolding byte_of
  minus_byte = rw opposite (go x g (rw (held x f) at l))
    where
      go : (x : ℤ) → SFits w8 (neg_ℤ x) → lt_z (pos 0) x ≡ false → Fits w8 (128 + nat_abs (neg_ℤ x)) × (128 + nat_abs (neg_ℤ x) ≡ byte_of x)
      go (pos zero) g l = (record { fits = omega arith }, refl)
      go (pos (suc n)) g l = absurd (omega (arith, ltb-false 0 (suc n) l))
      go (negsuc n) g l = (record { fits = omega (arith, g.sfits) }, refl)

pub plus_value : (e : ℕ) → e < 128 → to_z w8 e ≡ signed_of e
plus_value e h = to_z_pos w8 e (omega arith) ∙ sym (signed_plus e h)

module _ (e : ℕ) (h : 128 ≤ e) (l : e < 256) where
  less : to_z w8 (e - 128) ≡ pos (e - 128)
  less = to_z_pos w8 (e - 128) (omega arith)

  is_signed : pos 0 -ℤ to_z w8 (e - 128) ≡ signed_of e
  is_signed = rw less (+ℤ_idl (neg_ℤ (pos (e - 128))) ∙ sym (signed_minus e h))

  pub minus_fits : SFits w8 (pos 0 -ℤ to_z w8 (e - 128))
  minus_fits = rw is_signed (signed_fits e l)

  pub minus_value : to_z w8 (of_z w8 (pos 0 -ℤ to_z w8 (e - 128))) ≡ signed_of e
  minus_value = rw is_signed (held (signed_of e) (signed_fits e l))

pub opposite_fits : (e : ℕ) → e < 256 → SFits w8 (neg_ℤ (signed_of e))
opposite_fits e h = go (dec_le 128 e)
  where
    neg : (n : ℕ) → n < 128 → SFits w8 (neg_ℤ (pos n))
    neg zero q = record { sfits = omega arith }
    neg (suc n) q = record { sfits = omega arith }

    back : (n : ℕ) → n < 128 → SFits w8 (neg_ℤ (neg_ℤ (pos n)))
    back zero q = record { sfits = omega arith }
    back (suc n) q = record { sfits = omega arith }

    go : Dec (128 ≤ e) → SFits w8 (neg_ℤ (signed_of e))
    go (yes q) = rw (signed_minus e q) (back (e - 128) (omega arith))
    go (no q) = let t : e < 128 = omega arith in rw (signed_plus e t) (neg e t)

-- the negation of an entry, as the code computes it from a number r that is the entry's
module _ (e : ℕ) (h : e < 256) (r : ℤ) (is : r ≡ signed_of e) where
  turned_sign : to_z w8 (of_z w8 (pos 0 -ℤ to_z w8 (of_z w8 r))) ≡ neg_ℤ (signed_of e)
  turned_sign = rw (is, negative (signed_of e) (signed_fits e h)) (held (neg_ℤ (signed_of e)) (opposite_fits e h))

  pub negation_fits : SFits w8 (pos 0 -ℤ to_z w8 (of_z w8 r))
  negation_fits = rw (is, negative (signed_of e) (signed_fits e h)) (opposite_fits e h)

  pub negation_again : SFits w8 (neg_ℤ (to_z w8 (of_z w8 (pos 0 -ℤ to_z w8 (of_z w8 r)))))
  negation_again = rw (turned_sign, neg_ℤ-neg_ℤ (signed_of e)) (signed_fits e h)

  pub negation_byte : e < 128 → (b : ℕ) → b ≡ byte_of (to_z w8 (of_z w8 (pos 0 -ℤ to_z w8 (of_z w8 r)))) → b ≡ negated e
  negation_byte l b q = q ∙ rw turned_sign (byte_negated e l)

-- a minus taken off leaves the axis
pub negated_minus : (e : ℕ) → 128 ≤ e → e - 128 ≡ negated e
unfolding negated minus
negated_minus e h = rw (le-leb 128 e h) refl
