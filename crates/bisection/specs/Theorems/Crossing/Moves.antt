-- A row of the rule table on one axis: where its place goes, whether its entry is negated, what becomes of its near
-- and far side; and which row a facet takes.
use Rattle.std.specs.Prelude.{◌≡◌, Bool, true, false, cond, ◌≢◌, leb, eqb}
use Prim.Native.Nat.{ℕ, suc, ◌-◌, ◌*◌, ◌%◌}
use Rattle.bisection.specs.Theorems.Table.{Move, swap, nearer, farther, left, right, trade}
use Rattle.bisection.specs.Theorems.Crossing.Frames.{Frame}

-- one axis of a frame: its place, near and far side
pub record Spot : Type 0 where
  pub at : ℕ
  pub near : ℕ
  pub far : ℕ

-- where a row puts the entry at place p, places from 1
unfoldable pub place : ℕ → ℕ → Move → ℕ → ℕ
place d k (swap i) p = cond (eqb p i) (suc i) (cond (eqb p (suc i)) i p)
place d k nearer p = p
place d k farther p = p
place d k left p = cond (eqb p 1) (suc k) (cond (leb p (suc k)) (p - 1) p)
place d k right p = cond (eqb p (suc k)) 1 (cond (leb p k) (suc p) p)
place d k trade p = cond (eqb p 1) (suc k) (cond (eqb p (suc k)) 1 p)

-- whether it negates that entry
unfoldable pub negates : ℕ → ℕ → Move → ℕ → Bool
negates d k (swap i) p = false
negates d k nearer p = eqb p d
negates d k farther p = eqb p 1
negates d k left p = eqb p 1
negates d k right p = eqb p (suc k)
negates d k trade p = cond (eqb p 1) true (eqb p (suc k))

-- the near and far side of its axis: a negated entry's box stays, so that near and far change, or moves on
unfoldable pub sides : ℕ → ℕ → Move → ℕ → ℕ → ℕ → ℕ × ℕ
sides d k nearer p x y = (x, cond (negates d k nearer p) (2 * x - y) y)
sides d k farther p x y = (cond (negates d k farther p) (2 * y - x) x, y)
sides d k (swap i) p x y = (x, y)
sides d k left p x y = (cond (negates d k left p) y x, cond (negates d k left p) x y)
sides d k right p x y = (cond (negates d k right p) y x, cond (negates d k right p) x y)
sides d k trade p x y = (cond (negates d k trade p) y x, cond (negates d k trade p) x y)

-- the axis in the frame across
unfoldable pub apply : ℕ → ℕ → Move → ℕ → ℕ → ℕ → Spot
apply d k m p x y = record { at = place d k m p; near = (sides d k m p x y).0; far = (sides d k m p x y).1 }

-- the entry at place k + 1 carries the box's own sign: its near side is an even number of sides from the cube's
unfoldable pub own : ℕ → Frame → Bool
own k c = eqb (c.near (c.axis (suc k)) % 2) 0

-- an axis of the cell across stands, and has its sides, where the row puts them
pub record Lands (t : Spot) (p' x' y' : ℕ) : Type 0 where
  pub at : p' ≡ t.at
  pub near : x' ≡ t.near
  pub far : y' ≡ t.far

-- which row a facet takes, with what is known there
pub data Moved (d k i : ℕ) (b : Bool) : Move → Type 0 where
  is_near : i ≡ d → Moved d k i b nearer
  is_far : i ≢ d → i ≡ 0 → k ≡ d → Moved d k i b farther
  is_left : i ≢ d → i ≡ 0 → k ≢ d → b ≡ true → Moved d k i b left
  is_trade : i ≢ d → i ≡ 0 → k ≢ d → b ≡ false → Moved d k i b trade
  is_edge : i ≢ d → i ≢ 0 → i ≡ k → b ≡ true → Moved d k i b (swap k)
  is_right : i ≢ d → i ≢ 0 → i ≡ k → b ≡ false → Moved d k i b right
  is_swap : i ≢ d → i ≢ 0 → i ≢ k → Moved d k i b (swap i)
