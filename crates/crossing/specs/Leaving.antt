-- A crossing that leaves the box: facet d, and facet 0 at the start of a level. One entry changes its sign, the box
-- moves against an entry, and the new vertex stands where the old one did.
use Rattle.std.specs.Prelude.{◌≡◌}
use mathlib.Core.List.{List}
use Prim.Native.Nat.{ℕ, ◌≤◌, ◌<◌}
use Rattle.bisection.specs.Codes.{axis, minus, dimension_of, depth_of, entries_of, orthants_of, parts_of}
use Rattle.bisection.specs.Refusals.{done, code_refusal}
use Rattle.bisection.specs.Theorems.Table.{negated_at, across_name, runs_out, carried}
use Rattle.bisection.specs.Theorems.Neighbour.{is_blocked, table_place}

-- the row: what the table says, told by the entry e against which the box moves and the place whose sign changes
pub record Leaving (code : List ℕ) (d at e i : ℕ) : Type 0 where
  pub passes : code_refusal code ≡ done
  pub axes : d ≡ dimension_of code
  pub facet : i ≤ d
  pub place : at < d
  pub low : 1 ≤ axis e
  pub high : axis e ≤ 8
  pub wall : is_blocked code i ≡ runs_out (minus e) (axis e) (orthants_of code)
  pub entries : (across_name (dimension_of code) (depth_of code) i (parts_of code)).entries ≡ negated_at at (entries_of code)
  pub orthants : (across_name (dimension_of code) (depth_of code) i (parts_of code)).orthants ≡ carried (minus e) (axis e) (orthants_of code)
  pub new : table_place code i ≡ i
