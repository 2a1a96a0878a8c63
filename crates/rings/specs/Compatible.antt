-- Document 01, "Sheets", as request No. 4 amends it: compatible sheets. "For each leaf and each facet not in a face of the cube, exactly
-- one other leaf has all that facet's vertices." Vertices are points, in whatever order; another leaf is another record.
use Rattle.std.specs.Prelude.{◌≢◌, ◌≡◌, List, ℕ, ◌≤◌, ◌<◌, length}
use Rattle.bisection.specs.Cells.{Cell, cell_of}
use Rattle.bisection.specs.Facets.{facet, InFace, HasAll}
use Rattle.sheets.specs.Forests.{TreeCell}
use Rattle.sheets.specs.Sheets.{leaf_in}

-- the vertices of a cell of the forest
abbrev pub vertices_of : TreeCell → Cell
vertices_of c = cell_of c.root c.path

-- record m is another than record n, and its leaf has all vertices of facet i of leaf n
pub record HasFacet (leaves : List TreeCell) (n i m : ℕ) : Type 0 where
  pub small : m < length leaves
  pub another : m ≢ n
  pub has : HasAll (facet i (vertices_of (leaf_in leaves n))) (vertices_of (leaf_in leaves m))

-- exactly one is so
pub record OneHasFacet (leaves : List TreeCell) (n i : ℕ) : Type 0 where
  pub other : ℕ
  pub is : HasFacet leaves n i other
  pub only : (m : ℕ) → HasFacet leaves n i m → m ≡ other

-- compatible: so of each leaf and each facet not in a face of the cube
pub record Compatible (leaves : List TreeCell) : Type 0 where
  pub one : (n : ℕ) → n < length leaves → (i : ℕ) → i ≤ length (leaf_in leaves n).root
      → ¬ InFace (length (leaf_in leaves n).root) (facet i (vertices_of (leaf_in leaves n))) → OneHasFacet leaves n i
