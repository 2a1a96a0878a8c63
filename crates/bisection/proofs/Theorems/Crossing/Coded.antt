-- A code with its cell, at a dimension and depth that are known: the code's name is a cell's and draws the cell, and
-- so does the name's frame.
use Rattle.std.specs.Prelude.{◌≡◌, List, ℕ, ◌≤◌, ◌<◌, ◌^◌, length}
use Rattle.std.proofs.Common.{sym, subst}
use Rattle.dimension.specs.Sizes.{split_place, box_side, box_depth}
use Rattle.dimension.specs.Laws.{side_of, split_range}
use Rattle.bisection.specs.Cells.{Cell}
use Rattle.bisection.specs.Codes.{name_of, code_of, dimension_of, depth_of, parts_of}
use Rattle.bisection.specs.Facets.{IsCell}
use Rattle.bisection.proofs.Theorems.CodePaths.{some_axes, few_axes, name_passes, dimension_of_code, depth_of_code, parts_of_code}
use Rattle.bisection.specs.Theorems.Drawn.{Drawn}
use Rattle.bisection.proofs.Theorems.Geometry.{closed_form}
use Rattle.bisection.specs.Theorems.Crossing.Frames.{GoodFrame}
use Rattle.bisection.specs.Theorems.Crossing.Walls.{InCube}
use Rattle.bisection.specs.Theorems.Crossing.Points.{Scaled}
use Rattle.bisection.specs.Theorems.Crossing.Named.{frame}
use Rattle.bisection.proofs.Theorems.Crossing.Named.{frame_good, frame_cube, frame_scaled}
use Rattle.bisection.specs.Theorems.Crossing.Coded.{Coded}

pub coded : {code : List ℕ} {vs : Cell} → IsCell code vs → Coded (dimension_of code) (depth_of code) code vs
coded {code} {vs} c = record {
  cell = c;
  dimension = rw (is, dimension_of_code root path) c.is_code.good_root.dimension;
  deep = rw (is, dimension_of_code root path, depth_of_code root path) c.is_code.good_path.depth;
  passes = rw (is, dimension_of_code root path, depth_of_code root path, parts_of_code c.is_code.good_root path) (name_passes c.is_code.good_root path);
  drawn = rw (is, dimension_of_code root path, depth_of_code root path, parts_of_code c.is_code.good_root path)
      (subst (Drawn (length root) (length path) (name_of root path)) (sym c.is) (closed_form root path c.is_code.good_root c.is_code.good_path.depth));
}
  where
    root : List ℕ
    root = c.root

    path : List ℕ
    path = c.path

    is : code ≡ code_of root path
    is = c.is_code.is

-- the same, of a dimension and depth known otherwise
pub coded_at : {d D : ℕ} {code : List ℕ} {vs : Cell} → d ≡ dimension_of code → D ≡ depth_of code → IsCell code vs → Coded d D code vs
coded_at e f c = rw (e, f) (coded c)

-- its frame
module _ {d D : ℕ} {code : List ℕ} {vs : Cell} (c : Coded d D code vs) where
  pub some : 0 < d
  some = some_axes c.dimension

  pub few : d < 128
  few = few_axes c.dimension

  pub range : (1 ≤ split_place d D) × (split_place d D ≤ d)
  range = split_range d D some

  pub side : 0 < box_side d D
  side = (side_of d D some c.deep).some

  pub good_of : GoodFrame d (split_place d D) (frame (parts_of code))
  good_of = frame_good d D (parts_of code) c.passes

  pub cube_of : InCube (2 ^ box_depth d D) d (frame (parts_of code))
  cube_of = frame_cube d D (parts_of code) c.passes

  pub scaled_of : Scaled d (split_place d D) (box_side d D) vs (frame (parts_of code))
  scaled_of = frame_scaled d D (parts_of code) c.passes some c.deep c.drawn
