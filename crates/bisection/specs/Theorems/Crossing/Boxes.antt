-- The box of a name on one axis, as the number whose binary digits are the orthants' bits: it counts box sides from
-- the cube's low side. A carry through the orthants moves it by one, and runs out just where the cube ends.
use Rattle.std.specs.Prelude.{◌≡◌, Bool, not}
use Rattle.std.proofs.Math.Bool.{true, false, cond}
use mathlib.Core.List.{List, [], ◌∷◌}
use Prim.Native.Nat.{ℕ, suc, ◌+◌, ◌^◌}
use Rattle.std.proofs.Math.ListN.{length}
use Rattle.bisection.specs.Codes.{high}

-- the box on axis a
unfoldable pub box_at : ℕ → List ℕ → ℕ
box_at a [] = 0
box_at a (o ∷ os) = cond (high o a) (2 ^ length os) 0 + box_at a os

-- the side of the box that an entry's sign calls near, in box sides
abbrev pub unit : ℕ → Bool → ℕ
unit b minus = cond minus (suc b) b

-- a carry: N boxes in a row, from box b to box b'
pub data Carried (up : Bool) (N b b' : ℕ) : Bool → Type 0 where
  out : unit b up ≡ cond up N 0 → unit b' (not up) ≡ cond up 0 N → Carried up N b b' true
  on : unit b' (not up) ≡ unit b up → Carried up N b b' false
