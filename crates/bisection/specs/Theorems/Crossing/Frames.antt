-- A cell by its frame: for each axis its place, its near side and its far side. Past k the number of odd halves is the
-- vertex's place; up to k the number of odd sides grows by one with each vertex. So a vertex that two frames of one
-- depth share has the same place past k in both, and up to k the two places differ by one shift for all vertices.
use Rattle.std.specs.Prelude.{◌≡◌, ℕ, ◌/◌, ◌%◌, ◌≤◌, ◌<◌}
use Rattle.bisection.specs.Theorems.Crossing.Sums.{sum, Perm}
use Rattle.bisection.specs.Theorems.Crossing.Rows.{row, Sides}

-- the place of each axis, the axis at each place, and each axis's near and far side in box sides; axes count from 0,
-- places from 1
pub record Frame : Type 0 where
  pub at : ℕ → ℕ
  pub axis : ℕ → ℕ
  pub near : ℕ → ℕ
  pub far : ℕ → ℕ

-- the coordinate of vertex j on axis a, in halves of the box's side
abbrev pub vert : ℕ → Frame → ℕ → ℕ → ℕ
vert k c j a = row k (c.at a) (c.near a) (c.far a) j

-- near and far are one side apart, and near is even at the first k places: there the entry has the box's own sign
pub record GoodFrame (d k : ℕ) (c : Frame) : Type 0 where
  pub perm : Perm d c.at c.axis
  pub sides : (a : ℕ) → a < d → Sides (c.near a) (c.far a)
  pub even : (a : ℕ) → a < d → c.at a ≤ k → c.near a % 2 ≡ 0

-- vertex j of c and vertex j' of c' are the same point
abbrev pub Meets : ℕ → ℕ → Frame → ℕ → Frame → ℕ → Type 0
Meets d k c j c' j' = (a : ℕ) → a < d → vert k c j a ≡ vert k c' j' a

-- how many coordinates of vertex 0 are odd numbers of sides
unfoldable pub rank : ℕ → ℕ → Frame → ℕ
rank d k c = sum (λ a. vert k c 0 a / 2 % 2) d
