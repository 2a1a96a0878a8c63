-- Which vertex of the frame across a vertex of a frame is, row by row, and that the two have the same coordinate on
-- every axis.
use Rattle.std.specs.Prelude.{◌≡◌, ◌≢◌, ℕ, suc, ◌≤◌, ◌<◌}
use Rattle.bisection.specs.Theorems.Crossing.Rows.{row}
use Rattle.bisection.specs.Theorems.Table.{Move, swap, nearer, farther, trade, left, right}
use Rattle.bisection.specs.Theorems.Crossing.Moves.{Spot}

-- the rows that some facet takes
pub data Allowed (d k : ℕ) : Move → Type 0 where
  a_swap : {i : ℕ} → 1 ≤ i → i < d → Allowed d k (swap i)
  a_near : Allowed d k nearer
  a_far : k ≡ d → Allowed d k farther
  a_left : k < d → Allowed d k left
  a_right : k < d → Allowed d k right
  a_trade : k < d → Allowed d k trade

-- vertex j of the cell is vertex j' of the cell across
pub data Goes (d k : ℕ) : Move → ℕ → ℕ → Type 0 where
  g_swap : {i j : ℕ} → j ≢ i → Goes d k (swap i) j j
  g_near : {j : ℕ} → j ≢ d → Goes d k nearer j j
  g_far : {j : ℕ} → j ≢ 0 → Goes d k farther j j
  g_trade : {j : ℕ} → j ≢ 0 → Goes d k trade j j
  g_left : {j : ℕ} → j < k → Goes d k left (suc j) j
  g_left_on : {j : ℕ} → k < j → Goes d k left j j
  g_right : {j : ℕ} → j < k → Goes d k right j (suc j)
  g_right_on : {j : ℕ} → k < j → Goes d k right j j

abbrev pub RowAt : ℕ → Spot → ℕ → ℕ
RowAt k t j = row k t.at t.near t.far j
