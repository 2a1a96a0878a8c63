-- Two frames whose shared vertices keep their places are the same, or the second lies where a row of the table puts the
-- first. Two arguments give it: two axes exchange their places or none moves; one axis has another side or none has.
use Rattle.std.specs.Prelude.{◌≡◌, ◌≢◌, ℕ, ◌<◌}
use Rattle.bisection.specs.Theorems.Crossing.Frames.{Frame}
use Rattle.bisection.specs.Theorems.Crossing.Axes.{Same}
use Rattle.bisection.specs.Theorems.Table.{Move}
use Rattle.bisection.specs.Theorems.Crossing.Moves.{apply, Lands}

-- the frames are the same on axis a; the second lies on axis a where the row puts the first
abbrev pub SameAt : Frame → Frame → ℕ → Type 0
SameAt c c' a = Same (c.at a) (c.near a) (c.far a) (c'.at a) (c'.near a) (c'.far a)

abbrev pub LandsAt : ℕ → ℕ → Move → Frame → Frame → ℕ → Type 0
LandsAt d k m c c' a = Lands (apply d k m (c.at a) (c.near a) (c.far a)) (c'.at a) (c'.near a) (c'.far a)

pub data Outcome (d k : ℕ) (m : Move) (c c' : Frame) : Type 0 where
  same : ((a : ℕ) → a < d → SameAt c c' a) → Outcome d k m c c'
  crossed : ((a : ℕ) → a < d → LandsAt d k m c c' a) → Outcome d k m c c'

-- two axes exchange their places, or no axis moves
pub data Strict (u w p p' : ℕ) (Stay Go : Type 0) : Type 0 where
  at_u : p ≡ u → p' ≡ w → Go → Strict u w p p' Stay Go
  at_w : p ≡ w → p' ≡ u → Go → Strict u w p p' Stay Go
  other : p ≢ u → p ≢ w → p' ≡ p → Stay → Strict u w p p' Stay Go
