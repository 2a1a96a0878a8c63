-- The places under a row: it takes the places 1..d to themselves and its way back undoes it, so the frame across has
-- every axis at one place again.
use Prim.Native.Nat.{ℕ}
use Rattle.bisection.specs.Theorems.Crossing.Frames.{Frame}
use Rattle.bisection.specs.Theorems.Table.{Move, swap, nearer, farther, trade, left, right}
use Rattle.bisection.specs.Theorems.Crossing.Moves.{place, apply}

-- the way back
unfoldable pub opp : Move → Move
opp (swap i) = swap i
opp nearer = nearer
opp farther = farther
opp left = right
opp right = left
opp trade = trade

-- the cell across
unfoldable pub cross : ℕ → ℕ → Move → Frame → Frame
cross d k m c = record {
  at = λ a. (apply d k m (c.at a) (c.near a) (c.far a)).at;
  axis = λ t. c.axis (place d k (opp m) t);
  near = λ a. (apply d k m (c.at a) (c.near a) (c.far a)).near;
  far = λ a. (apply d k m (c.at a) (c.near a) (c.far a)).far;
}
