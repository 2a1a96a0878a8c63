-- Fractions that are floats, with a sign or without: one float for each, one value for equal fractions, and a quotient by a power of two.
use Rattle.std.specs.Prelude.{◌≡◌, refl, Bool, true, false, cond, ℕ, ◌+◌, ◌-◌, ◌*◌, ◌/◌, ◌^◌, ◌≤◌, ◌<◌, T, ℤ, pos, negsuc, nat_abs, Float}
use Rattle.std.proofs.Common.{sym, ◌∙◌, arith, mul-pos, mul_assoc, lt_of_lt_of_le, le→leb, lt→ltb, pow_pos, pow_mono, shl_lt, ne_eqb}
use Rattle.std.proofs.Math.Path.{ap}
use Rattle.std.proofs.Math.Nat.{eq_of_mul-eq-mul_left, eq_of_mul-eq-mul_right}
use Rattle.std.proofs.Math.Pow.{pow-add}
use Rattle.std.specs.Float.{nan, inf, fin, Format, binary64}
use Rattle.std.specs.Float.Ieee.{prec, low, up, down, hid, top, size, unlike, div, round, of_int, of_bits, to_bits, fits, in_float}
use Rattle.std.specs.Float.Ieee.Exact.{HasValue, round_exact}
use Rattle.std.specs.Float.Ieee.Back.{round_whole}
use Rattle.std.specs.Float.Ieee.Bits.{of_bits-to_bits}
use Rattle.std.specs.Float.Ieee.Digits.{back}
use Rattle.std.specs.Float.Ieee.Nearest.{div_same}
use Rattle.std.specs.Float.Ieee.Scale.{round_same}
use Rattle.std.specs.Float.Ieee.Fits.{down_pos, round-fits}
use Rattle.dimension.specs.Sizes.{halvings, cube_side, greatest_depth, box_depth, box_side}
use Rattle.dimension.specs.Laws.{halvings_few, side_whole, box_in}
use Rattle.greys.specs.Fractions.{Fraction, Quotient, negative, Power, plus_zero}

pub power_some : {s : ℕ} → Power s → 0 < s
power_some p = rw p.is (pow_pos p.log)

pub cube_power : Power cube_side
unfolding cube_side
cube_power = record { log = halvings; few = omega (arith, halvings_few); is = refl }

-- so is the side of every box
pub box_power : (d D : ℕ) → 0 < d → D ≤ greatest_depth d → Power (box_side d D)
unfolding box_side
box_power d D d0 deep = record {
  log = halvings - box_depth d D;
  few = omega (arith, halvings_few);
  is = eq_of_mul-eq-mul_left (2 ^ box_depth d D) (pow_pos (box_depth d D)) _ _ (side_whole (box_depth d D) few ∙ whole);
}
  where
    few : box_depth d D ≤ halvings
    few = box_in d D d0 deep

    parts : halvings ≡ box_depth d D + (halvings - box_depth d D)
    parts = omega (arith, few)

    whole : cube_side ≡ 2 ^ box_depth d D * 2 ^ (halvings - box_depth d D)
    whole = unfold cube_side in ap (λ (n : ℕ). 2 ^ n) parts ∙ pow-add 2 (box_depth d D) (halvings - box_depth d D)

-- ---- one float for a quotient: its bits tell of the sign and of the value in units of the smallest one, cut to a whole number

bits_of : Format → Bool → ℕ → ℕ
bits_of f s n = let k = size n - prec f in cond s (top f) 0 + k * hid f + n / 2 ^ k

bits_are : (f : Format) (x : Float) (s : Bool) (a c : ℕ) → 0 < c → HasValue x s a c → to_bits f x ≡ bits_of f s (a * 2 ^ low f / c)
unfolding to_bits bits_of
bits_are f nan s a c p v = absurd v
bits_are f (inf t) s a c p v = absurd v
bits_are f (fin t m e) s a c p v = rw (v.0, div_same (m * up e * 2 ^ low f) (down e) (a * 2 ^ low f) c (down_pos e) p (omega (arith, ap (λ (z : ℕ). z * 2 ^ low f) v.1))) refl

pub quotient_one : {x y : Float} {n : ℤ} {s : ℕ} → 0 < s → Quotient x n s → Quotient y n s → x ≡ y
quotient_one {x} {y} {n} {s} p f g = sym (own f) ∙ own g
  where
    own : {x : Float} → Quotient x n s → of_bits binary64 (bits_of binary64 (negative n) (nat_abs n * 2 ^ low binary64 / s)) ≡ x
    own {x} f = rw (← bits_are binary64 x (negative n) (nat_abs n) s p f.value) (of_bits-to_bits binary64 x f.fits_format)

-- a fraction is a quotient with no minus
as_quotient : {x : Float} {n s : ℕ} → Fraction x n s → Quotient x (pos n) s
as_quotient f = record { fits_format = f.fits_format; value = f.value }

as_fraction : {x : Float} {n s : ℕ} → Quotient x (pos n) s → Fraction x n s
as_fraction q = record { fits_format = q.fits_format; value = q.value }

pub fraction_one : {x y : Float} {n s : ℕ} → 0 < s → Fraction x n s → Fraction y n s → x ≡ y
fraction_one p f g = quotient_one p (as_quotient f) (as_quotient g)

-- ---- equal fractions, and 0

pub fraction_same : {x : Float} {n s n' s' : ℕ} → 0 < s → n * s' ≡ n' * s → Fraction x n s → Fraction x n' s'
fraction_same {x} {n} {s} {n'} {s'} p e f = record { fits_format = f.fits_format; value = go x f.value }
  where
    go : (x : Float) → HasValue x false n s → HasValue x false n' s'
    go nan v = absurd v
    go (inf t) v = absurd v
    go (fin t m e') v = (v.0, eq_of_mul-eq-mul_right s p (m * up e' * s') (n' * down e') (omega (arith, ap (λ (z : ℕ). z * s') v.1, ap (λ (z : ℕ). z * down e') e)))

pub zero_fraction : (s : ℕ) → Fraction plus_zero 0 s
unfolding fits
zero_fraction s = record { fits_format = tt; value = (refl, omega arith) }

pub zero_quotient : (s : ℕ) → Quotient plus_zero (pos 0) s
zero_quotient s = as_quotient (zero_fraction s)

-- ---- a whole number by a power of two: it has no more digits than binary64 keeps, and is far above the smallest value, 2 ^ -1074

round_fraction : (minus : Bool) (n t : ℕ) → n < 2 ^ 53 → t ≤ 52 → HasValue (round binary64 minus n (2 ^ t)) minus n (2 ^ t)
round_fraction minus n t hn ht = round_exact binary64 minus n (2 ^ t) n (1074 - t) (pow_pos t) hn fine even
  where
    fine : n * 2 ^ (1074 - t) < 2 ^ 2098
    fine = lt_of_lt_of_le (shl_lt 53 (1074 - t) hn) (pow_mono {i = 53 + (1074 - t)} {j = 2098} (omega arith))

    whole : 2 ^ (1074 - t) * 2 ^ t ≡ 2 ^ 1074
    whole = sym (pow-add 2 (1074 - t) t) ∙ ap (λ (x : ℕ). 2 ^ x) (back 1074 t (omega arith))

    even : n * 2 ^ 1074 ≡ n * 2 ^ (1074 - t) * 2 ^ t
    even = rw (← whole) (sym (mul_assoc n (2 ^ (1074 - t)) (2 ^ t)))

-- the sign of a quotient by a number with no minus
unlike_plus : (s : Bool) → unlike s false ≡ s
unlike_plus true = refl
unlike_plus false = refl

div_at : (f : Format) (minus : Bool) (x y : Float) (a b : ℕ) → 0 < b → HasValue x minus a 1 → HasValue y false b 1 → div f x y ≡ round f minus a b
unfolding div
div_at f minus nan y a b p h k = absurd h
div_at f minus (inf s) y a b p h k = absurd h
div_at f minus (fin s m e) nan a b p h k = absurd k
div_at f minus (fin s m e) (inf t) a b p h k = absurd k
div_at f minus (fin s m e) (fin t n d) a b p h k =
    rw (ne_eqb n 0 nz, h.0, k.0, unlike_plus minus) (round_same f minus _ _ a b (mul-pos some (down_pos e)) p across)
  where
    some : 0 < n * up d
    some = omega (arith, k.1, mul-pos p (down_pos d))

    nz : n ≡ 0 → ⊥
    nz z = omega (arith, some, ap (λ (x : ℕ). x * up d) z)

    across : m * up e * down d * b ≡ a * (n * up d * down e)
    across = omega (arith, ap (λ (x : ℕ). x * (b * down d)) h.1, ap (λ (x : ℕ). x * (a * down e)) k.1)

-- what the two casts ask
pub cast_whole : (n : ℤ) → nat_abs n < 2 ^ 53 → T (in_float binary64 n)
unfolding in_float
cast_whole (pos n) h = le→leb n (2 ^ 53) (omega arith)
cast_whole (negsuc n) h = lt→ltb n (2 ^ 53) (omega arith)

power_under : {s : ℕ} → Power s → s < 2 ^ 53
power_under p = rw p.is (omega (arith, pow_mono {i = p.log} {j = 52} p.few))

pub cast_side : {s : ℕ} → Power s → T (in_float binary64 (pos s))
cast_side {s} p = cast_whole (pos s) (power_under p)

-- a whole number as an f64 is rounded by its sign and its size
from_int : (n : ℤ) → of_int binary64 n ≡ round binary64 (negative n) (nat_abs n) 1
unfolding of_int
from_int (pos n) = refl
from_int (negsuc n) = refl

-- the quotient of the two as floats loses nothing
pub quotient_divided : {n : ℤ} {s : ℕ} → nat_abs n < 2 ^ 53 → Power s → Quotient (div binary64 (of_int binary64 n) (of_int binary64 (pos s))) n s
quotient_divided {n} {s} hn p = rw (from_int n, from_int (pos s), is) (record {
  fits_format = round-fits binary64 (negative n) (nat_abs n) s;
  value = rw p.is (round_fraction (negative n) (nat_abs n) p.log hn p.few);
})
  where
    is : div binary64 (round binary64 (negative n) (nat_abs n) 1) (round binary64 false s 1) ≡ round binary64 (negative n) (nat_abs n) s
    is = div_at binary64 (negative n) _ _ (nat_abs n) s (power_some p) (round_whole binary64 (negative n) (nat_abs n) (omega arith))
        (round_whole binary64 false s (omega (arith, power_under p)))

pub divided : {n s : ℕ} → n < 2 ^ 53 → Power s → Fraction (div binary64 (of_int binary64 (pos n)) (of_int binary64 (pos s))) n s
divided hn p = as_fraction (quotient_divided {n = pos _} hn p)

-- a whole number as an f64
pub whole_fraction : {n : ℕ} → n ≤ 2 ^ 53 → Fraction (of_int binary64 (pos n)) n 1
unfolding of_int
whole_fraction {n} l = record { fits_format = round-fits binary64 false n 1; value = round_whole binary64 false n l }
