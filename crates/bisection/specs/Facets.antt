-- Document 01, "Crossing": facets, a facet in a face of the cube, a cell that has all the facet's vertices, and the
-- cell across a facet with the place of its new vertex.
use Rattle.std.specs.Prelude.{◌≡◌, ◌⊎◌, ◌≢◌, ℕ, suc, ◌≤◌, take, drop}
use mathlib.Core.List.{List, ◌++◌, Memᴰ}
use Rattle.dimension.specs.Sizes.{cube_side}
use Rattle.bisection.specs.Cells.{Point, Cell, coordinate, vertex, cell_of}
use Rattle.bisection.specs.Codes.{IsCodeOf, dimension_of, depth_of}

-- a facet is named by the place i of the vertex it lacks
unfoldable pub facet : ℕ → Cell → List Point
facet i vs = take i vs ++ drop (suc i) vs

-- some axis has the same coordinate, 0 or the cube's side, at all the points
pub record InFace (d : ℕ) (points : List Point) : Type 0 where
  pub a : ℕ
  pub low : 1 ≤ a
  pub high : a ≤ d
  pub height : ℕ
  pub edge : (height ≡ 0) ⊎ (height ≡ cube_side)
  pub flat : (v : Point) → Memᴰ v points → coordinate v a ≡ height

-- the cell has all the points among its vertices, in whatever order
abbrev pub HasAll : List Point → Cell → Type 0
HasAll points vs = (v : Point) → Memᴰ v points → Memᴰ v vs

-- the cell of a code: that of the root and path whose code it is
pub record IsCell (code : List ℕ) (vs : Cell) : Type 0 where
  pub root : List ℕ
  pub path : List ℕ
  pub is_code : IsCodeOf code root path
  pub is : vs ≡ cell_of root path

-- code' is another cell's, of that dimension and depth, and its cell has all vertices of facet i of the code's cell
pub record Shares (i : ℕ) (code code' : List ℕ) : Type 0 where
  pub vs : Cell
  pub ws : Cell
  pub cell : IsCell code vs
  pub cell' : IsCell code' ws
  pub another : code ≢ code'
  pub dimension : dimension_of code ≡ dimension_of code'
  pub depth : depth_of code ≡ depth_of code'
  pub has : HasAll (facet i vs) ws

-- across facet i lies the cell of code': it is the only one with the facet's vertices, and its vertex j is new
pub record Across (code : List ℕ) (i : ℕ) (code' : List ℕ) (j : ℕ) : Type 0 where
  pub shares : Shares i code code'
  pub only : (code'' : List ℕ) → Shares i code code'' → code'' ≡ code'
  pub place : j ≤ dimension_of code
  pub new : ¬ Memᴰ (vertex shares.ws j) shares.vs
