-- Which facets of a child lie inside which of the cell's. By weights: each vertex of the child is one of the cell's or the middle of the
-- split edge, so its weights in the cell are known, and it lies inside the cell's facet i exactly where vertex i has none of them. So the
-- child's facet opposite the middle lies inside the facet opposite the end that the child lacks, and is that facet; the one opposite
-- a vertex of the cell lies inside the cell's facet opposite it, unless that vertex is an end; there is no other.
use Rattle.std.specs.Prelude.{◌≡◌, ◌≢◌, ℕ, ◌≤◌, ◌<◌}
use Rattle.bisection.specs.Theorems.Crossing.Skips.{skip}
use Rattle.bisection.specs.Theorems.Splitting.Children.{lacks, keeps}

-- facet j of child b lies inside facet i, by places: the whole of it, or a part
pub data Lies (d b k i j : ℕ) : Type 0 where
  whole : j ≡ k → i ≡ lacks b k → Lies d b k i j
  part : (t : ℕ) → t < d → j ≡ skip k t → i ≡ skip (lacks b k) t → i ≢ keeps b k → Lies d b k i j

-- any other facet lies inside one
pub record Holder (d b k j : ℕ) : Type 0 where
  pub i : ℕ
  pub within : i ≤ d
  pub lies : Lies d b k i j
