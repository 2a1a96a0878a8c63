-- Document 01, "Sheets": an f64 that is exact.
use Rattle.std.specs.Prelude.{◌≡◌, Bool, true, false, ℕ, ◌^◌, ◌≤◌, T, ℤ, pos, negsuc, nat_abs, Float}
use Rattle.std.specs.Float.{fin, binary64}
use Rattle.std.specs.Float.Ieee.{fits}
use Rattle.std.specs.Float.Ieee.Exact.{HasValue}

-- x is the fraction n / s exactly: binary64 has it, its sign is plus, and that is its value
pub record Fraction (x : Float) (n s : ℕ) : Type 0 where
  pub fits_format : T (fits binary64 x)
  pub value : HasValue x false n s

-- n has a minus
abbrev pub negative : ℤ → Bool
negative (pos n) = false
negative (negsuc n) = true

-- x is n / s exactly, n a whole number with its sign: binary64 has it, and that is its value; of 0 it is +0.0
pub record Quotient (x : Float) (n : ℤ) (s : ℕ) : Type 0 where
  pub fits_format : T (fits binary64 x)
  pub value : HasValue x (negative n) (nat_abs n) s

-- +0.0
abbrev pub plus_zero : Float
plus_zero = fin false 0 (pos 0)

-- s is a power of two, at most 2^52
pub record Power (s : ℕ) : Type 0 where
  pub log : ℕ
  pub few : log ≤ 52
  pub is : s ≡ 2 ^ log
