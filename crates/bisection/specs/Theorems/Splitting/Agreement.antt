-- Crossing and splitting agree, for every dimension: what lies across a child's facet that is inside facet i of the cell. Where facet i
-- lies in a face of the cube, so do all points inside it. Otherwise there are two cases. The child's facet is a part: then facet i is
-- opposite no end of the split edge, so the cell across has that edge too, in the same places, and all other vertices but i; so its
-- child of the same number has the child's vertices but one, in the same places. Or it is the whole of facet i, opposite an end: then
-- the new vertex stands at an end too, and the child across that lacks it has the facet whole.
use Rattle.std.specs.Prelude.{cond, ℕ, ◌-◌, eqb}
use mathlib.Core.List.{List}
use Rattle.bisection.specs.Cells.{Cell, child}
use Rattle.bisection.specs.Facets.{IsCell, Across}

-- the number of the child across: kept but where the new vertex of the cell across is not at place i
unfoldable pub number_across : ℕ → ℕ → ℕ → ℕ
number_across i i' b = cond (eqb i' i) b (1 - b)

-- across facet j of the child lies child n of the cell ws, and its new vertex stands at place j too
pub record ChildAcross (child_code : List ℕ) (j k : ℕ) (ws : Cell) (n : ℕ) : Type 0 where
  pub child_code' : List ℕ
  pub cell : IsCell child_code' (child n k ws)
  pub across : Across child_code j child_code' j
