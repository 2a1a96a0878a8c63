-- Frames and lists of points. A cell drawn by a frame has at each vertex and axis half as many box sides as the
-- frame counts halves; so points of two such cells are equal just where the frames meet, a cell has all points of a
-- facet just where its frame has, and a facet lies in a face of the cube just where its frame stands on a wall.
use Rattle.std.specs.Prelude.{◌≡◌, ◌≢◌, get_or}
use Prim.Native.Nat.{ℕ, ◌*◌, ◌≤◌, ◌<◌}
use Rattle.std.proofs.Math.ListN.{length}
use Rattle.bisection.specs.Cells.{Point, Cell, vertex}
use Rattle.bisection.specs.Theorems.Drawn.{Sized}
use Rattle.bisection.specs.Theorems.Crossing.Frames.{Frame, vert}

pub record OtherPlace (v : Point) (i : ℕ) (vs : Cell) : Type 0 where
  pub place : ℕ
  pub below : place < length vs
  pub other : place ≢ i
  pub is : v ≡ vertex vs place

-- a cell of box side s drawn by a frame; axes from 0
pub record Scaled (d k s : ℕ) (vs : Cell) (c : Frame) : Type 0 where
  pub sized : Sized d vs
  pub reads : (j a : ℕ) → j ≤ d → a < d → 2 * get_or (vertex vs j) a 0 ≡ s * vert k c j a
