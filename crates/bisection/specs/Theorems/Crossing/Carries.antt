-- What a row of the table does to the boxes: on the axis of the entry whose facet is crossed a carry moves the box to
-- the other side of near, or of far, and every other box stays. The carry runs out just where a wall of the cube is
-- in the way.
use Rattle.std.specs.Prelude.{◌≡◌, Bool, ◌≢◌, ℕ}
use Rattle.std.proofs.Math.Bool.{not}
use Rattle.bisection.specs.Theorems.Table.{Move, swap, nearer, farther, left, right, trade}
use Rattle.bisection.specs.Theorems.Crossing.Boxes.{unit}

-- the box on the axis of place p: kept, or moved to the other side of near, or of far
pub data BoxGoes (d p b : ℕ) (n : Bool) (b' : ℕ) : Move → Type 0 where
  b_swap : {i : ℕ} → b' ≡ b → BoxGoes d p b n b' (swap i)
  b_near : (p ≡ d → unit b' (not n) ≡ unit b n) → (p ≢ d → b' ≡ b) → BoxGoes d p b n b' nearer
  b_far : (p ≡ 1 → unit b' (not (not n)) ≡ unit b (not n)) → (p ≢ 1 → b' ≡ b) → BoxGoes d p b n b' farther
  b_left : b' ≡ b → BoxGoes d p b n b' left
  b_right : b' ≡ b → BoxGoes d p b n b' right
  b_trade : b' ≡ b → BoxGoes d p b n b' trade
