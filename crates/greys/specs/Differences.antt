-- A difference of two sums as an i64 holds it, and its quotient by a power of two.
use Rattle.std.specs.Prelude.{◌≡◌, refl, ℕ, zero, suc, ◌^◌, ◌<◌, ℤ, pos, negsuc, nat_abs, ◌-ℤ◌}
use Rattle.std.proofs.Common.{ap, arith, lt-ltb, le-ltb, SFits, to_z, of_z}
use Rattle.std.proofs.Math.Decide.{dec_lt}
use Rattle.std.proofs.Math.IntN.{sub_ℕ}
use Rattle.std.specs.Float.{binary64}
use Rattle.std.specs.Float.Ieee.{div, of_int}
use Rattle.std.specs.Int.{w64}
use Rattle.std.proofs.lemmas.Int.{to_z-of_z, to_z_pos}
use Rattle.greys.specs.Fractions.{Quotient, Power}
use Rattle.greys.specs.Exact.{quotient_divided}

minus_is : (a b : ℕ) → pos a -ℤ pos b ≡ sub_ℕ a b
minus_is a zero = rw (le-ltb a 0 (omega arith)) (ap pos (omega arith))
minus_is a (suc b) = refl

whole_fits : (n : ℤ) → nat_abs n < 2 ^ 53 → SFits w64 n
whole_fits (pos n) h = record { sfits = omega arith }
whole_fits (negsuc n) h = record { sfits = omega arith }

module _ {a b : ℕ} (ha : a < 2 ^ 53) (hb : b < 2 ^ 53) where
  -- it is no larger than the larger of the two
  small : nat_abs (sub_ℕ a b) < 2 ^ 53
  small = go (dec_lt a b)
    where
      go : Dec (a < b) → nat_abs (sub_ℕ a b) < 2 ^ 53
      go (yes l) = rw (lt-ltb a b l) (omega arith)
      go (no l) = rw (le-ltb a b (omega arith)) (omega arith)

  -- what the subtraction gives
  difference_is : to_z w64 a -ℤ to_z w64 b ≡ sub_ℕ a b
  difference_is = rw (to_z_pos w64 a (omega arith), to_z_pos w64 b (omega arith)) (minus_is a b)

  -- what the machine reads back from its bits
  held : to_z w64 (of_z w64 (to_z w64 a -ℤ to_z w64 b)) ≡ sub_ℕ a b
  held = rw difference_is (to_z-of_z w64 (sub_ℕ a b) (whole_fits (sub_ℕ a b) small))

  pub difference_divided : {s : ℕ} → Power s
      → Quotient (div binary64 (of_int binary64 (to_z w64 (of_z w64 (to_z w64 a -ℤ to_z w64 b)))) (of_int binary64 (pos s))) (sub_ℕ a b) s
  difference_divided p = rw held (quotient_divided small p)
