-- Document 01, "The cube and the bisection": points, cells, the two children, the cell of a root and a path.
-- d is the dimension and D a depth; a path is its bytes, 0 for child 0 and 1 for child 1.
use Rattle.std.specs.Prelude.{List, [], ◌∷◌, ◌++◌, ℕ, zero, suc, ◌+◌, ◌-◌, ◌/◌, ◌%◌, length, get_or, take, drop, set, replicate}
use Rattle.dimension.specs.Sizes.{cube_side, split_place}

-- a point: its coordinates, axis 1 first
abbrev pub Point : Type 0
Point = List ℕ

-- a cell: an ordered list v0 .. vd of points
abbrev pub Cell : Type 0
Cell = List Point

-- the coordinate of a point on axis a, a from 1
abbrev pub coordinate : Point → ℕ → ℕ
coordinate v a = get_or v (a - 1) 0

-- vertex j of a cell
abbrev pub vertex : Cell → ℕ → Point
vertex vs j = get_or vs j []

unfoldable pub midpoint : Point → Point → Point
midpoint [] w = []
midpoint (x ∷ v) [] = []
midpoint (x ∷ v) (y ∷ w) = (x + y) / 2 ∷ midpoint v w

-- child 0 is (v0 .. v(k-1), m, v(k+1) .. vd), child 1 is (v1 .. vk, m, v(k+1) .. vd)
unfoldable pub child : ℕ → ℕ → Cell → Cell
child zero k vs = take k vs ++ midpoint (vertex vs 0) (vertex vs k) ∷ drop (suc k) vs
child (suc b) k vs = take k (drop 1 vs) ++ midpoint (vertex vs 0) (vertex vs k) ∷ drop (suc k) vs

-- a point moved by the cube's side on axis a
unfoldable pub moved : ℕ → Point → Point
moved a v = set v (a - 1) (coordinate v a + cube_side)

-- a root's vertices from v on: each is the one before moved on the next axis
unfoldable pub corners : Point → List ℕ → Cell
corners v [] = v ∷ []
corners v (a ∷ axes) = v ∷ corners (moved a v) axes

-- the cell of a root: vertex 0 is the origin
unfoldable pub root_cell : List ℕ → Cell
root_cell root = corners (replicate (length root) 0) root

-- the cell at depth D + length path below a cell of depth D
unfoldable pub cell_below : ℕ → ℕ → Cell → List ℕ → Cell
cell_below d D vs [] = vs
cell_below d D vs (b ∷ path) = cell_below d (suc D) (child b (split_place d D) vs) path

-- the cell of a root and a path
unfoldable pub cell_of : List ℕ → List ℕ → Cell
cell_of root path = cell_below (length root) 0 (root_cell root) path

-- a coordinate is two bytes, low byte first; a point its coordinates, a cell its points, in order
unfoldable pub point_bytes : Point → List ℕ
point_bytes [] = []
point_bytes (x ∷ v) = x % 256 ∷ x / 256 ∷ point_bytes v

unfoldable pub cell_bytes : Cell → List ℕ
cell_bytes [] = []
cell_bytes (v ∷ vs) = point_bytes v ++ cell_bytes vs
