-- What a name (entries and orthants) must be to be a cell's at depth D, for every dimension d: the step rule
-- keeps it, and every such name but a root's is the step of exactly one, found by the sign of entry k.
use Rattle.std.specs.Prelude.{◌≡◌, length, get_or, take}
use Rattle.std.proofs.Math.Bool.{cond}
use mathlib.Core.List.{List}
use Prim.Native.Nat.{ℕ, zero, suc, ◌-◌, ◌^◌, ◌<◌}
use Rattle.dimension.specs.Sizes.{split_place, box_depth}
use Rattle.bisection.specs.Codes.{axis, minus, Name}
use Rattle.bisection.specs.Refusals.{own_minus, same_sign}
use Rattle.bisection.specs.Theorems.Entries.{Signed, unturned}

-- the entries i below k carry the box's own sign
pub record Own (k : ℕ) (es os : List ℕ) : Type 0 where
  pub sign : (i : ℕ) → i < k → minus (get_or es i 0) ≡ own_minus os (axis (get_or es i 0))

-- an orthant list for boxes halved L times
pub record Boxes (d L : ℕ) (os : List ℕ) : Type 0 where
  pub count : length os ≡ L
  pub fit : (t : ℕ) → t < L → get_or os t 0 < 2 ^ d

pub record Passes (d D : ℕ) (n : Name) : Type 0 where
  pub signed : Signed d n.entries
  pub boxes : Boxes d (box_depth d D) n.orthants
  pub own : Own (split_place d D) n.entries n.orthants

-- the place, from 0, of entry k at depth D
abbrev pub split_entry : ℕ → ℕ → ℕ
split_entry d D = split_place d D - 1

-- the parent, of a name at depth D + 1. Its orthants: where a new box was begun, the last one goes
unfoldable pub fewer : ℕ → ℕ → List ℕ → List ℕ
fewer d D os = take (box_depth d D) os

-- the last step: 0 when entry k carries the own sign of the parent's box
unfoldable pub last_step : ℕ → ℕ → Name → ℕ
last_step d D m = cond (same_sign (minus (get_or m.entries (split_entry d D) 0)) (own_minus (fewer d D m.orthants) (axis (get_or m.entries (split_entry d D) 0)))) 0 1

-- child 0 kept the entries, child 1 turned them
unfoldable pub unstepped : ℕ → ℕ → List ℕ → List ℕ
unstepped zero n es = es
unstepped (suc b) n es = unturned n es

unfoldable pub parent_name : ℕ → ℕ → Name → Name
parent_name d D m = record { entries = unstepped (last_step d D m) (split_entry d D) m.entries; orthants = fewer d D m.orthants }
