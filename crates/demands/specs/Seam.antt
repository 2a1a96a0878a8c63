-- Request No. 4: "Give one small sheet that the old rule passed and the new one fails." Dimension 2, three leaves: the two children of
-- root [1 2], and root [2 1]. The children have a corner at (2048,2048), the middle of the large leaf's longest edge, one depth apart.
use Rattle.std.specs.Prelude.{◌≡◌, List, [], ◌∷◌, ◌≢◌, ℕ, ◌≤◌, ◌<◌, length}
use Rattle.bisection.specs.Roots.{GoodRoot, GoodPath}
use Rattle.bisection.specs.Refusals.{done}
use Rattle.bisection.specs.Facets.{facet, InFace, HasAll}
use Rattle.sheets.specs.Forests.{TreeCell, tree_cell, child_of}
use Rattle.sheets.specs.Sheets.{leaf_in, Good}
use Rattle.rings.specs.Rings.{IsLeaf}
use Rattle.rings.specs.Compatible.{vertices_of, Compatible}
use Rattle.compatible.specs.declared.CompatibleAnswer.{CompatibleAnswer}
use Rattle.compatible.specs.Compatible.{yes_or_no, CompatibleIs}

-- its 36 bytes: three records
abbrev pub seam : List ℕ
seam =
    0x43 ∷ 0x4C ∷ 0x02 ∷ 0x01 ∷ 0x01 ∷ 0x02 ∷ 0x0A ∷ 0x00 ∷ 0x14 ∷ 0x00 ∷ 0x3C ∷ 0x00 ∷
    0x43 ∷ 0x4C ∷ 0x02 ∷ 0x01 ∷ 0x02 ∷ 0x81 ∷ 0x14 ∷ 0x00 ∷ 0x32 ∷ 0x00 ∷ 0x3C ∷ 0x00 ∷
    0x43 ∷ 0x4C ∷ 0x02 ∷ 0x00 ∷ 0x02 ∷ 0x01 ∷ 0x0A ∷ 0x00 ∷ 0x1E ∷ 0x00 ∷ 0x32 ∷ 0x00 ∷ []

-- its leaves: (0,0) (4096,0) (2048,2048); (4096,0) (4096,4096) (2048,2048); (0,0) (0,4096) (4096,4096)
abbrev pub seam_leaves : List TreeCell
seam_leaves = tree_cell (1 ∷ 2 ∷ []) (0 ∷ []) ∷ tree_cell (1 ∷ 2 ∷ []) (1 ∷ []) ∷ tree_cell (2 ∷ 1 ∷ []) [] ∷ []

-- The old rule, document 01, "Sheets": "for each leaf and each facet not in a face of the cube, the same-depth cell across it, or that
-- cell's parent, or one of that cell's children, is a leaf."
-- the same-depth cell across facet i of a cell: another cell of that depth that has all the facet's vertices
pub record CellAcross (c : TreeCell) (i : ℕ) (e : TreeCell) : Type 0 where
  pub good_root : GoodRoot e.root
  pub good_path : GoodPath (length e.root) e.path
  pub axes : length e.root ≡ length c.root
  pub depth : length e.path ≡ length c.path
  pub another : e ≢ c
  pub has : HasAll (facet i (vertices_of c)) (vertices_of e)

-- that cell, or its parent, or one of its children, is a leaf
pub data NearLeaf (leaves : List TreeCell) (e : TreeCell) : Type 0 where
  itself : IsLeaf leaves e → NearLeaf leaves e
  parent : (p : TreeCell) (b : ℕ) → e ≡ child_of b p → IsLeaf leaves p → NearLeaf leaves e
  child : (b : ℕ) → b ≤ 1 → IsLeaf leaves (child_of b e) → NearLeaf leaves e

-- of one leaf and one of its facets
pub record Meets (leaves : List TreeCell) (c : TreeCell) (i : ℕ) : Type 0 where
  pub across : TreeCell
  pub is : CellAcross c i across
  pub near : NearLeaf leaves across

-- of each leaf and each facet not in a face of the cube
pub record OldRule (leaves : List TreeCell) : Type 0 where
  pub holds : (n : ℕ) → n < length leaves → (i : ℕ) → i ≤ length (leaf_in leaves n).root
      → ¬ InFace (length (leaf_in leaves n).root) (facet i (vertices_of (leaf_in leaves n))) → Meets leaves (leaf_in leaves n) i

-- no sheet is compatible that the old rule does not pass; that it is so, and what is claimed of the small sheet, stands in Theorems
abbrev pub Stricter : Type 0
Stricter = (sheet : List ℕ) (n : ℕ) (g : Good sheet n) → Compatible g.cells → OldRule g.cells

-- what is so of the sheet
pub record SeamIs : Type 0 where
  pub good : Good seam 3
  pub leaves : good.cells ≡ seam_leaves
  pub old_rule : OldRule seam_leaves
  pub not_compatible : ¬ Compatible seam_leaves
  -- the compatibility test answers no, and its contract allows nothing else
  pub answer : CompatibleIs seam (yes_or_no done 0 0)
  pub only : (r : CompatibleAnswer) → CompatibleIs seam r → r ≡ yes_or_no done 0 0
