-- The sizes of document 01, "The cube and the bisection" and "The code", over any dimension d.
-- This is their one home in definitions: `halvings` is the only number that a finer cube changes.
use Rattle.std.specs.Prelude.{Bool, ◌||◌, ℕ, zero, suc, ◌+◌, ◌*◌, ◌/◌, ◌%◌, ◌-◌, ◌^◌, eqb}
use Rattle.dimension.specs.declared.Dim.{Dim}
use Rattle.dimension.specs.declared.Dim.TheVariants.{Two, Three, Four}

-- dimension 2, 3 or 4
unfoldable pub is_dimension : ℕ → Bool
is_dimension d = eqb d 2 || eqb d 3 || eqb d 4

abbrev pub axes_of : Dim → ℕ
axes_of Two = 2
axes_of Three = 3
axes_of Four = 4

-- how often the cube is halved on each axis
unfoldable pub halvings : ℕ
halvings = 12

-- the cube is 0 to 4096 on each axis
unfoldable pub cube_side : ℕ
cube_side = 2 ^ halvings

-- the greatest depth is 12 times the dimension
unfoldable pub greatest_depth : ℕ → ℕ
greatest_depth d = halvings * d

-- the level l = D mod d
unfoldable pub level : ℕ → ℕ → ℕ
level d D = D % d

-- k = d - l: the edge that is split joins the vertices 0 and k
unfoldable pub split_place : ℕ → ℕ → ℕ
split_place d D = d - level d D

-- L = D div d: how often the cube was halved on every axis to give the box
unfoldable pub box_depth : ℕ → ℕ → ℕ
box_depth d D = D / d

-- the side of a box after L halvings: 4096 / 2^L
unfoldable pub side_after : ℕ → ℕ
side_after L = cube_side / 2 ^ L

-- the box of a cell has side s = 4096 / 2^L
unfoldable pub box_side : ℕ → ℕ → ℕ
box_side d D = side_after (box_depth d D)

-- the length of a code is 2 + d + L
unfoldable pub code_length : ℕ → ℕ → ℕ
code_length d D = 2 + d + box_depth d D

unfoldable pub longest_code : ℕ → ℕ
longest_code d = code_length d (greatest_depth d)

-- the most axes that a dimension has, and the longest code of all dimensions
unfoldable pub most_axes : ℕ
most_axes = 4

unfoldable pub longest_of_all : ℕ
longest_of_all = longest_code most_axes

-- the length of a cell's points: d + 1 points of d coordinates of two bytes
unfoldable pub points_length : ℕ → ℕ
points_length d = suc d * (2 * d)

-- there are d! roots
unfoldable pub root_count : ℕ → ℕ
root_count zero = 1
root_count (suc d) = suc d * root_count d
