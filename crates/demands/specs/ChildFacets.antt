-- A child's facets. Exactly one lies inside no facet of the cell: the one that the child shares with its sibling, and crossing it gives the
-- sibling. Each other one lies inside exactly one facet of the cell.
use Rattle.std.specs.Prelude.{◌≡◌, List, ◌≢◌, ℕ, suc, ◌-◌, ◌≤◌}
use Rattle.dimension.specs.Sizes.{split_place}
use Rattle.bisection.specs.Cells.{Cell}
use Rattle.bisection.specs.Codes.{dimension_of, depth_of}
use Rattle.bisection.specs.Facets.{facet, Across}
use Rattle.bisection.specs.Weights.{LiesInside}
use Rattle.demands.specs.Agree.{Split}

-- facet j of us lies inside one facet of vs, and no other
pub record InsideOne (d : ℕ) (vs us : Cell) (j : ℕ) : Type 0 where
  pub i : ℕ
  pub facet_of : i ≤ d
  pub inside : LiesInside (facet j us) (facet i vs)
  pub only : (i' : ℕ) → i' ≤ d → LiesInside (facet j us) (facet i' vs) → i' ≡ i

-- place j in child b of the vertex that its sibling has not: place 0 in child 0, place k - 1 in child 1
pub record SharedAt (b k j : ℕ) : Type 0 where
  pub in_0 : b ≡ 0 → j ≡ 0
  pub in_1 : b ≡ 1 → suc j ≡ k

pub record Facets (code : List ℕ) (vs : Cell) (b : ℕ) (child_code : List ℕ) (us : Cell) : Type 0 where
  pub shared : ℕ
  pub at : SharedAt b (split_place (dimension_of code) (depth_of code)) shared
  pub facet_of : shared ≤ dimension_of code
  pub outside : (i : ℕ) → i ≤ dimension_of code → ¬ LiesInside (facet shared us) (facet i vs)
  pub sibling : (child_code' : List ℕ) (us' : Cell) → Split code vs (1 - b) child_code' us'
      → (j : ℕ) → SharedAt (1 - b) (split_place (dimension_of code) (depth_of code)) j → Across child_code shared child_code' j
  pub others : (j : ℕ) → j ≤ dimension_of code → j ≢ shared → InsideOne (dimension_of code) vs us j

unfoldable pub ChildFacets : Type 0
ChildFacets = (code : List ℕ) (vs : Cell) (b : ℕ) (child_code : List ℕ) (us : Cell) → Split code vs b child_code us → Facets code vs b child_code us
