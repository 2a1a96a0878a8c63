-- The bisection's cells as a shape: the tree of children, and the crossing laws, from the crossing theorem.
use Rattle.std.specs.Prelude.{Bool, true, false, ℕ, ◌≤◌, length}
use Rattle.dimension.specs.Sizes.{greatest_depth, split_place}
use Rattle.bisection.specs.Facets.{facet, HasAll}
use Rattle.sheets.specs.Forests.{TreeCell, child_of}
use Rattle.finding.specs.Theorems.OneOfThree.{CellOf}
use Rattle.rings.specs.Compatible.{vertices_of}
use Rattle.rings.specs.Rings.{LeadsTo}
use Rattle.rings.specs.Theorems.Shape.{Shape}

-- child 0 or child 1
abbrev pub bit : Bool → ℕ
bit false = 0
bit true = 1

-- cell m has all vertices of facet i of cell c
pub record Has (d : ℕ) (c : TreeCell) (i : ℕ) (m : TreeCell) : Type 0 where
  pub facet_of : i ≤ d
  pub all : HasAll (facet i (vertices_of c)) (vertices_of m)

abbrev pub shape : ℕ → Shape
shape d = record {
  C = TreeCell;
  Real = CellOf d;
  depth = λ c. length c.path;
  greatest = greatest_depth d;
  child = λ b c. child_of (bit b) c;
  split_at = split_place d;
  LeadsTo = LeadsTo d;
  Has = Has d;
}

-- some cell lies across facet i
pub record LeadsSomewhere (d : ℕ) (c : TreeCell) (i : ℕ) : Type 0 where
  pub n : TreeCell
  pub j : ℕ
  pub leads : LeadsTo d c i n j
