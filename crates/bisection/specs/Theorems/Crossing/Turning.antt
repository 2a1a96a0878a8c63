-- Two frames of which the first's corners 1..k are the second's corners 0..k-1: the second is the first with its first
-- k + 1 entries turned left, and the first is the second with them turned right.
use Rattle.std.specs.Prelude.{◌≡◌}
use Prim.Native.Nat.{ℕ, suc, ◌≤◌, ◌<◌}
use Rattle.bisection.specs.Theorems.Crossing.Frames.{Frame}

-- turned corners: one axis
pub data Rolled (k p x y p' x' y' : ℕ) : Type 0 where
  head : p ≡ 1 → p' ≡ suc k → x' ≡ y → y' ≡ x → Rolled k p x y p' x' y'
  body : 2 ≤ p → p ≤ suc k → suc p' ≡ p → x' ≡ x → y' ≡ y → Rolled k p x y p' x' y'
  tail : suc k < p → p' ≡ p → x' ≡ x → y' ≡ y → Rolled k p x y p' x' y'

abbrev pub RolledAt : ℕ → Frame → Frame → ℕ → Type 0
RolledAt k c c' a = Rolled k (c.at a) (c.near a) (c.far a) (c'.at a) (c'.near a) (c'.far a)
