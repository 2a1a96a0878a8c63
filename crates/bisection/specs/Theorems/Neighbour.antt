-- The crossing theorem, for every dimension and depth. Where facet i of a code's cell lies in a face of the cube, no
-- other cell of that depth has all its vertices; otherwise exactly one has, it is the one of the rule table, and
-- its new vertex stands where the table says. So the answer is determined, and crossing back leads back.
use Rattle.std.specs.Prelude.{Bool, true, false}
use mathlib.Core.List.{List}
use Prim.Native.Nat.{ℕ}
use Rattle.bisection.specs.Cells.{Cell}
use Rattle.bisection.specs.Codes.{bytes, dimension_of, depth_of, parts_of}
use Rattle.bisection.specs.Facets.{facet, InFace, Shares, Across}
use Rattle.bisection.specs.Theorems.Table.{blocked, across_name, new_place}

-- the table's answer for facet i of a code
abbrev pub is_blocked : List ℕ → ℕ → Bool
is_blocked code i = blocked (dimension_of code) (depth_of code) i (parts_of code)

abbrev pub table_code : List ℕ → ℕ → List ℕ
table_code code i = bytes (dimension_of code) (depth_of code) (across_name (dimension_of code) (depth_of code) i (parts_of code))

abbrev pub table_place : List ℕ → ℕ → ℕ
table_place code i = new_place (dimension_of code) (depth_of code) i (parts_of code)

-- the two cases together, told by the table
pub data Neighbour (code : List ℕ) (vs : Cell) (i : ℕ) : Bool → Type 0 where
  none : InFace (dimension_of code) (facet i vs) → ((code' : List ℕ) → ¬ Shares i code code') → Neighbour code vs i true
  one : ¬ InFace (dimension_of code) (facet i vs) → Across code i (table_code code i) (table_place code i) → Neighbour code vs i false
