-- A whole number with a sign as a difference of two without one: equations of such numbers become equations that need no sign.
use Rattle.std.specs.Prelude.{◌≡◌, ℕ, suc, ◌+◌, ℤ, pos, negsuc}

-- a number's own difference, one side of which is 0
abbrev pub over : ℤ → ℕ
over (pos n) = n
over (negsuc n) = 0

abbrev pub under : ℤ → ℕ
under (pos n) = 0
under (negsuc n) = suc n

-- z is p less q
pub record Less (z : ℤ) (p q : ℕ) : Type 0 where
  pub is : p + under z ≡ q + over z
