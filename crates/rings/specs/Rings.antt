-- The forms in which request No. 4's rule is used, over the leaves of a forest of dimension d. With n the cell across facet i of a leaf and
-- j the place of its new vertex: who else has the facet's vertices (`Sharer`), and what one look at n tells (`Matched`). And that split cells
-- come as whole rings round their edge (`WholeRings`). What is claimed of them (`Forms`) is proved in Theorems.
use Rattle.std.specs.Prelude.{◌≡◌, ◌≢◌, List, ℕ, ◌≤◌, ◌<◌, length}
use Rattle.dimension.specs.Sizes.{split_place}
use Rattle.bisection.specs.Codes.{code_of}
use Rattle.bisection.specs.Facets.{facet, HasAll, Across}
use Rattle.sheets.specs.Forests.{TreeCell, child_of}
use Rattle.sheets.specs.Sheets.{leaf_in}
use Rattle.finding.specs.Finding.{StrictlyIn}
use Rattle.finding.specs.Theorems.OneOfThree.{CellOf}
use Rattle.rings.specs.Compatible.{vertices_of, Compatible}

-- the cell is a leaf: one of the records is its
pub record IsLeaf (leaves : List TreeCell) (c : TreeCell) : Type 0 where
  pub number : ℕ
  pub small : number < length leaves
  pub is : leaf_in leaves number ≡ c

-- it is split: a leaf lies in it and is not it
pub record IsSplit (leaves : List TreeCell) (c : TreeCell) : Type 0 where
  pub number : ℕ
  pub small : number < length leaves
  pub inside : StrictlyIn (leaf_in leaves number) c

-- it is present: a leaf, or split
pub data Present (leaves : List TreeCell) (c : TreeCell) : Type 0 where
  leaf : IsLeaf leaves c → Present leaves c
  split : IsSplit leaves c → Present leaves c

-- the code of a cell of the forest
abbrev pub code_for : TreeCell → List ℕ
code_for c = code_of c.root c.path

-- crossing facet i of cell c leads to cell n, whose new vertex stands at place j
pub record LeadsTo (d : ℕ) (c : TreeCell) (i : ℕ) (n : TreeCell) (j : ℕ) : Type 0 where
  pub cell : CellOf d c
  pub beyond : CellOf d n
  pub facet_of : i ≤ d
  pub across : Across (code_for c) i (code_for n) j

-- n's parent, where j is the place of n's newest vertex: the middle at which the parent was split
pub record Parent (d : ℕ) (n : TreeCell) (j : ℕ) (e : TreeCell) : Type 0 where
  pub number : ℕ
  pub is : n ≡ child_of number e
  pub newest : j ≡ split_place d (length e.path)

-- n itself; or its parent, where j is the place of its newest vertex; or child 1 of it, where j is 0; or child 0, where j is k
pub data Sharer (d : ℕ) (n : TreeCell) (j : ℕ) (e : TreeCell) : Type 0 where
  itself : e ≡ n → Sharer d n j e
  parent : Parent d n j e → Sharer d n j e
  child_1 : e ≡ child_of 1 n → j ≡ 0 → Sharer d n j e
  child_0 : e ≡ child_of 0 n → j ≡ split_place d (length n.path) → Sharer d n j e

-- one look: n is present, or its parent is a leaf and j the place of its newest vertex
pub data Matched (d : ℕ) (leaves : List TreeCell) (n : TreeCell) (j : ℕ) : Type 0 where
  present : Present leaves n → Matched d leaves n j
  parent : (e : TreeCell) → IsLeaf leaves e → Parent d n j e → Matched d leaves n j

-- so of the cell across a facet, where the crossing is not refused
abbrev pub FacetPasses : ℕ → List TreeCell → TreeCell → ℕ → Type 0
FacetPasses d leaves c i = (n : TreeCell) (j : ℕ) → LeadsTo d c i n j → Matched d leaves n j

-- and of each facet of each leaf
abbrev pub AllPass : ℕ → List TreeCell → Type 0
AllPass d leaves = (c : TreeCell) → IsLeaf leaves c → (i : ℕ) → i ≤ d → FacetPasses d leaves c i

-- it is enough to look from the leaves that are child 0 of a cell, at their facets other than 0
abbrev pub FirstPass : ℕ → List TreeCell → Type 0
FirstPass d leaves = (c : TreeCell) → IsLeaf leaves (child_of 0 c) → (i : ℕ) → i ≤ d → i ≢ 0 → FacetPasses d leaves (child_of 0 c) i

-- whole rings: of each split cell, the cell across every facet other than 0 and k is split too, or the crossing is refused
abbrev pub WholeRings : ℕ → List TreeCell → Type 0
WholeRings d leaves = (c : TreeCell) → IsSplit leaves c → (i : ℕ) → i ≤ d → i ≢ 0 → i ≢ split_place d (length c.path) → (n : TreeCell) (j : ℕ) → LeadsTo d c i n j → IsSplit leaves n

-- the claim
pub record Forms (d : ℕ) (leaves : List TreeCell) : Type 0 where
  -- another leaf has all vertices of a facet exactly when it is one of the four, and at most one of these is a leaf
  pub sharer : (c n e : TreeCell) (i j : ℕ) → LeadsTo d c i n j → IsLeaf leaves c → IsLeaf leaves e → e ≢ c → HasAll (facet i (vertices_of c)) (vertices_of e) → Sharer d n j e
  pub has : (c n e : TreeCell) (i j : ℕ) → LeadsTo d c i n j → IsLeaf leaves e → Sharer d n j e → (e ≢ c) × HasAll (facet i (vertices_of c)) (vertices_of e)
  pub one : (c n e e' : TreeCell) (i j : ℕ) → LeadsTo d c i n j → IsLeaf leaves e → IsLeaf leaves e' → Sharer d n j e → Sharer d n j e' → e ≡ e'
  -- the leaves are compatible exactly when all facets pass, when those of the leaves that are child 0 do, and when split cells come as
  -- whole rings
  pub passes : (Compatible leaves → AllPass d leaves) × (AllPass d leaves → Compatible leaves)
  pub firsts : (Compatible leaves → FirstPass d leaves) × (FirstPass d leaves → Compatible leaves)
  pub rings : (Compatible leaves → WholeRings d leaves) × (WholeRings d leaves → Compatible leaves)
