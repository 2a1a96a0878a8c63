-- The frame across, where no wall is in the way, is a good one: its sides are one apart, and its first k places have the
-- box's own sign.
use Rattle.std.specs.Prelude.{◌≡◌, ◌≢◌, ℕ, suc, ◌%◌, ◌≤◌}
use Rattle.bisection.specs.Theorems.Crossing.Rows.{Sides}
use Rattle.bisection.specs.Theorems.Table.{Move, swap, nearer, farther, trade, left, right}
use Rattle.bisection.specs.Theorems.Crossing.Moves.{Spot}

-- what the signs must be for the frame across to be good, and no low wall in the way
pub data Clear (d k p x y : ℕ) : Move → Type 0 where
  c_swap : {i : ℕ} → (i ≡ k → p ≡ suc k → x % 2 ≡ 0) → Clear d k p x y (swap i)
  c_near : (p ≡ d → x ≢ 0) → Clear d k p x y nearer
  c_far : (p ≡ 1 → y ≢ 0) → Clear d k p x y farther
  c_left : (p ≡ suc k → x % 2 ≡ 0) → Clear d k p x y left
  c_right : (p ≡ suc k → y % 2 ≡ 0) → Clear d k p x y right
  c_trade : (p ≡ suc k → y % 2 ≡ 0) → Clear d k p x y trade

-- an axis of a good frame
pub record Fine (k : ℕ) (t : Spot) : Type 0 where
  pub sides : Sides t.near t.far
  pub even : t.at ≤ k → t.near % 2 ≡ 0
