-- The rows that would lead out of the cube. Nothing lies where they lead, so that the frame alone has the facet's
-- vertices; and they are the rows of just those facets that lie in a wall of the cube.
use Rattle.std.specs.Prelude.{◌≡◌, ◌≢◌, ℕ, ◌*◌, ◌≤◌, ◌<◌}
use Rattle.bisection.specs.Theorems.Crossing.Frames.{Frame, vert}
use Rattle.bisection.specs.Theorems.Table.{Move, nearer, farther}

-- the cube has N box sides on each axis
pub record InCube (N d : ℕ) (c : Frame) : Type 0 where
  pub near : (a : ℕ) → a < d → c.near a ≤ N
  pub far : (a : ℕ) → a < d → c.far a ≤ N

-- a wall: 0 or N
pub data Wall (N : ℕ) : ℕ → Type 0 where
  bottom : Wall N 0
  top : Wall N N

-- the rows that move the box, with a wall where they lead
pub data Stuck (N d : ℕ) (c : Frame) : Move → Type 0 where
  end : Wall N (c.near (c.axis d)) → Stuck N d c nearer
  start : Wall N (c.far (c.axis 1)) → Stuck N d c farther

-- some axis has the same coordinate, a wall's, at all vertices of the facet
pub record OnWall (N d k i : ℕ) (c : Frame) : Type 0 where
  pub axis : ℕ
  pub real : axis < d
  pub wall : ℕ
  pub is_wall : Wall N wall
  pub flat : (j : ℕ) → j ≤ d → j ≢ i → vert k c j axis ≡ 2 * wall
