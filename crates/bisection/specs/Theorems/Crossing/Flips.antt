-- An orthant byte with one bit flipped: that bit is the other, every other bit is as it was, and no bit comes to
-- stand at d or above.
use Rattle.std.specs.Prelude.{◌≡◌, Bool, cond, not}
use Prim.Native.Nat.{ℕ, ◌+◌, ◌-◌, ◌*◌, ◌^◌, ◌<◌}
use Rattle.bisection.specs.Codes.{high}
use Rattle.bisection.specs.Theorems.Table.{flipped}

-- a byte and its flip by their parts: the bits above, the bit, the bits below
abbrev pub digit : Bool → ℕ
digit t = cond t 1 0

pub record Parts (a o : ℕ) : Type 0 where
  pub bit : Bool
  pub above : ℕ
  pub below : ℕ
  pub is : high o a ≡ bit
  pub low : below < 2 ^ (a - 1)
  pub byte : o ≡ (2 * above + digit bit) * 2 ^ (a - 1) + below
  pub flip : flipped a o ≡ (2 * above + digit (not bit)) * 2 ^ (a - 1) + below
