-- Request No. 5, crossing and splitting agree: "take any cell whose depth is less than the greatest, its facet i, and a child of the cell
-- with a facet lying inside facet i. If crossing i is refused with 8, so is that child's crossing. Otherwise the child's crossing
-- leads to a child of the cell across i." A cell is an ordered list of points, and a code its name; to lie inside is to be a mean.
use Rattle.std.specs.Prelude.{◌≡◌, List, ℕ, ◌≤◌, ◌<◌}
use Rattle.dimension.specs.Sizes.{greatest_depth, split_place}
use Rattle.bisection.specs.Cells.{Cell, child}
use Rattle.bisection.specs.Codes.{dimension_of, depth_of}
use Rattle.bisection.specs.Facets.{facet, InFace, IsCell, Shares, Across}
use Rattle.bisection.specs.Weights.{LiesInside}

-- us is child b of the cell vs, whose depth is less than the greatest; code and child_code name the two
pub record Split (code : List ℕ) (vs : Cell) (b : ℕ) (child_code : List ℕ) (us : Cell) : Type 0 where
  pub cell : IsCell code vs
  pub below : depth_of code < greatest_depth (dimension_of code)
  pub number : b ≤ 1
  pub half : us ≡ child b (split_place (dimension_of code) (depth_of code)) vs
  pub named : IsCell child_code us

-- across facet j of the child lies child 0 or child 1 of the cell that lies across facet i of the cell
pub record AcrossBoth (code : List ℕ) (i : ℕ) (child_code : List ℕ) (j : ℕ) : Type 0 where
  pub code' : List ℕ
  pub ws : Cell
  pub i' : ℕ
  pub across : Across code i code' i'
  pub b' : ℕ
  pub child_code' : List ℕ
  pub us' : Cell
  pub split : Split code' ws b' child_code' us'
  pub j' : ℕ
  pub across_child : Across child_code j child_code' j'

pub record Agrees (code : List ℕ) (vs : Cell) (i : ℕ) (child_code : List ℕ) (us : Cell) (j : ℕ) : Type 0 where
  -- where facet i lies in a face of the cube, so does the child's facet, and no other cell of the child's depth has its vertices
  pub face : InFace (dimension_of code) (facet i vs) → InFace (dimension_of code) (facet j us)
  pub alone : InFace (dimension_of code) (facet i vs) → (other : List ℕ) → ¬ Shares j child_code other
  -- otherwise the one cell that has them is a child of the one cell that has those of facet i
  pub both : ¬ InFace (dimension_of code) (facet i vs) → AcrossBoth code i child_code j

-- so of every cell, each facet, each child and each facet of it that lies inside
unfoldable pub Agree : Type 0
Agree = (code : List ℕ) (vs : Cell) (b : ℕ) (child_code : List ℕ) (us : Cell) → Split code vs b child_code us
    → (i j : ℕ) → i ≤ dimension_of code → j ≤ dimension_of code → LiesInside (facet j us) (facet i vs) → Agrees code vs i child_code us j
