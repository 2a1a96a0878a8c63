-- The frame of a name: an axis stands where its entry does, its near and far sides are those of the box that the
-- orthants give, by the entry's sign. A name that is a cell's has a good frame within the cube, and the cell that the
-- name draws is the one that its frame draws.
use Rattle.std.specs.Prelude.{cond, not, List, [], ◌∷◌, eqb}
use Prim.Native.Nat.{ℕ, suc, ◌-◌}
use Rattle.bisection.specs.Codes.{axis, minus_on, Name}
use Rattle.bisection.specs.Theorems.Drawn.{entry}
use Rattle.bisection.specs.Theorems.Crossing.Frames.{Frame}
use Rattle.bisection.specs.Theorems.Crossing.Boxes.{box_at, unit}

-- the place, from 0, of the entry of axis a
unfoldable pub place_of : List ℕ → ℕ → ℕ
place_of [] a = 0
place_of (e ∷ es) a = cond (eqb (axis e) a) 0 (suc (place_of es a))

-- axes from 0, places from 1
unfoldable pub frame : Name → Frame
frame m = record {
  at = λ a. suc (place_of m.entries (suc a));
  axis = λ t. axis (entry m (t - 1)) - 1;
  near = λ a. unit (box_at (suc a) m.orthants) (minus_on m.entries (suc a));
  far = λ a. unit (box_at (suc a) m.orthants) (not (minus_on m.entries (suc a)));
}
