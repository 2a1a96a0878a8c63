-- A frame that has all vertices of facet i of another: the shared vertices keep their places, or the corners 0..k move
-- by one place, and that only where i is 0 or k.
use Rattle.std.specs.Prelude.{◌≡◌, ◌≢◌, ℕ, suc, ◌≤◌, ◌<◌}
use Rattle.bisection.specs.Theorems.Crossing.Frames.{Frame, Meets}

-- vertex j of c is a vertex of c'
pub record Among (d k : ℕ) (c : Frame) (j : ℕ) (c' : Frame) : Type 0 where
  pub place : ℕ
  pub within : place ≤ d
  pub meets : Meets d k c j c' place

-- all vertices of c but vertex i are vertices of c'
abbrev pub HasFacet : ℕ → ℕ → ℕ → Frame → Frame → Type 0
HasFacet d k i c c' = (j : ℕ) → j ≤ d → j ≢ i → Among d k c j c'

-- the corners 1..k of c are the corners 0..k-1 of c', the other vertices keep their places
pub record Slid (d k : ℕ) (c c' : Frame) : Type 0 where
  pub corner : (j : ℕ) → j < k → Meets d k c (suc j) c' j
  pub other : (j : ℕ) → k < j → j ≤ d → Meets d k c j c' j

-- how the places of the shared vertices compare
pub data Shift (d k i : ℕ) (c c' : Frame) : Type 0 where
  level : ((j : ℕ) → j ≤ d → j ≢ i → Meets d k c j c' j) → Shift d k i c c'
  slid_left : i ≡ 0 → Slid d k c c' → Shift d k i c c'
  slid_right : i ≡ k → Slid d k c' c → Shift d k i c c'
