-- The record of the leaf at a point, and the one that a query is answered from. The leaf is the first in tree order that contains the
-- point: it is found by its place on the line, and the weights on the way at its depth are its own, with the cube's side as their sum.
use Rattle.std.specs.Prelude.{◌≡◌, refl, true, List, [], ◌++◌, ℕ, suc, ◌+◌, ◌*◌, ◌≤◌, length, get_or, take, drop}
use Rattle.std.proofs.Common.{sym, ap, ◌∙◌, subst, arith, length-append}
use Rattle.dimension.specs.Sizes.{is_dimension, cube_side, greatest_depth, code_length}
use Rattle.bisection.specs.Cells.{Point}
use Rattle.bisection.specs.Roots.{roots}
use Rattle.bisection.specs.Weights.{Weighs}
use Rattle.sheets.specs.Forests.{TreeCell, Leaves}
use Rattle.sheets.specs.Sheets.{samples_of, GoodSheet, leaf_in}
use Rattle.sheets.specs.Theorems.Listing.{GoodCell}
use Rattle.points.specs.Points.{point_of, is_point}
use Rattle.points.proofs.Theorems.CubePoints.{point_in_cube}
use Rattle.ways.specs.Ways.{Way, CellWeights, Reached, Begun, Descended, LocatedIs}
use Rattle.ways.specs.WayLaws.{way_front, way_one}
use Rattle.ways.specs.declared.Located.{Located}
use Rattle.ways.specs.declared.Place.{Place}
use Rattle.finding.specs.declared.Sought.{Sought}
use Rattle.queries.specs.declared.Standing.{Standing}
use Rattle.queries.specs.declared.Chosen.{Chosen}
use Rattle.queries.specs.Queries.{cell_in, LeafAt}
use Rattle.queries.specs.Theorems.OnTheWay.{Found}
use Rattle.queries.specs.Theorems.Sizes.{found, place_small, leaf_by_sizes, way_part}
use Rattle.finding.specs.Sizes.{sizes_to, sizes_none}
use Rattle.finding.specs.Walk.{from_start, leaf_good, Here, here}
use Rattle.finding.specs.Seeks.{SeekReady, SoughtIs}

-- a good sheet of d axes, and a point of the cube
pub record ChoiceReady (mark : List ℕ) (width : ℕ) (sheet : List ℕ) (d : ℕ) (point : List ℕ) : Type 0 where
  pub count : ℕ
  pub good : GoodSheet mark width sheet count
  pub axes : good.dimension ≡ d
  pub passes : is_point d point ≡ true

-- the record of the leaf at the point: how deep the leaf is, the code and the samples at the offset, and the point's weights in the leaf's
-- root, of the cube's side as their sum. The leaf is on the way down to the point, so the weights in it are so many steps from there
pub record StandsIs (mark : List ℕ) (width : ℕ) (sheet : List ℕ) (d : ℕ) (p : Point) (r : Standing) : Type 0 where
  pub count : ℕ
  pub good : GoodSheet mark width sheet count
  pub axes : good.dimension ≡ d
  pub leaf_at : LeafAt good.cells p r.number
  pub depth_is : r.depth ≡ length (leaf_in good.cells r.number).path
  pub deep : r.depth ≤ greatest_depth d
  pub stands : Here good r.number r.offset
  pub weights : CellWeights d (leaf_in good.cells r.number).root [] p r.first
  pub goes : Way (leaf_in good.cells r.number).root (leaf_in good.cells r.number).path p

-- the record of the leaf at the point: how deep the leaf is, where its samples stand, and the weights of the cube's side
pub record ChosenIs (mark : List ℕ) (width : ℕ) (sheet : List ℕ) (d : ℕ) (p : Point) (r : Chosen) : Type 0 where
  pub count : ℕ
  pub good : GoodSheet mark width sheet count
  pub axes : good.dimension ≡ d
  pub leaf_at : LeafAt good.cells p r.number
  pub depth_is : r.depth ≡ length (leaf_in good.cells r.number).path
  pub five : length r.weights ≡ 5
  pub weighs : Weighs (cell_in good.cells r.number) p cube_side (take (suc d) r.weights)
  pub room : r.samples + width * suc d ≤ length sheet
  pub samples_are : take (width * suc d) (drop r.samples sheet) ≡ samples_of good.records r.number

-- ---- the leaf at the point, by its place on the line

module _ {mark : List ℕ} {width : ℕ} {sheet : List ℕ} {d : ℕ} {point : List ℕ} (c : ChoiceReady mark width sheet d point) {way : Located} (located : LocatedIs d (point_of point) way) where
  known : is_dimension d ≡ true
  known = subst (λ (n : ℕ). is_dimension n ≡ true) c.axes c.good.has_dimension

  dims : length (point_of point) ≡ d
  dims = (point_in_cube d point c.passes).axes

  leaves_in : Leaves (roots d) (greatest_depth d) c.good.cells
  leaves_in = subst (λ (n : ℕ). Leaves (roots n) (greatest_depth n) c.good.cells) c.axes c.good.leaves

  pub choice_seek : SeekReady mark width sheet d 0 0 (record { stretches = way.root; part = way.position })
  choice_seek = record {
    count = c.count;
    good = c.good;
    axes = c.axes;
    at = from_start c.good;
    part_small = way_part located;
    before_end = omega (arith, place_small known leaves_in dims located, sizes_none (greatest_depth d) c.good.cells);
  }

  module _ {sought : Sought} (s : SoughtIs mark width sheet d 0 0 (record { stretches = way.root; part = way.position }) sought) where
    abbrev leaf : TreeCell
    leaf = leaf_in s.ready.good.cells sought.number

    leaves_of : Leaves (roots d) (greatest_depth d) s.ready.good.cells
    leaves_of = subst (λ (n : ℕ). Leaves (roots n) (greatest_depth n) s.ready.good.cells) s.ready.axes s.ready.good.leaves

    cell : GoodCell leaf × (length leaf.root ≡ s.ready.good.dimension)
    cell = leaf_good s.ready.good sought.number s.holds.small

    axes_are : length leaf.root ≡ d
    axes_are = cell.1 ∙ s.ready.axes

    o : Found s.ready.good.cells (point_of point) (get_or (roots d) way.root []) located.way
    o = found known leaves_of dims located

    none_before : sizes_to (greatest_depth d) s.ready.good.cells 0 ≡ 0
    none_before = sizes_none (greatest_depth d) s.ready.good.cells

    number_is : o.number ≡ sought.number
    unfolding o
    number_is = leaf_by_sizes known leaves_of dims located sought.number s.holds.small
        (omega (arith, s.holds.low, none_before)) (omega (arith, s.holds.high, none_before))

    root_is : get_or (roots d) way.root [] ≡ leaf.root
    root_is = sym o.root_is ∙ ap (λ (n : ℕ). (leaf_in s.ready.good.cells n).root) number_is

    way_is : located.way ≡ leaf.path ++ o.rest
    way_is = o.way_is ∙ ap (λ (n : ℕ). (leaf_in s.ready.good.cells n).path ++ o.rest) number_is

    in_root : length (point_of point) ≡ length leaf.root
    in_root = dims ∙ sym axes_are

    leaf_way : Way leaf.root leaf.path (point_of point)
    leaf_way = way_front leaf.root cell.0.good_root in_root leaf.path o.rest
        (rw axes_are (omega (arith, length-append leaf.path o.rest, ap length way_is, located.size)))
        (subst (λ (w : List ℕ). Way leaf.root w (point_of point)) way_is
        (subst (λ (r : List ℕ). Way r located.way (point_of point)) root_is located.goes))

    pub choice_stands : StandsIs mark width sheet d (point_of point)
        (record { number = sought.number; offset = sought.offset; depth = sought.depth; first = way.weights })
    choice_stands = record {
      count = s.ready.count;
      good = s.ready.good;
      axes = s.ready.axes;
      leaf_at = subst (LeafAt s.ready.good.cells (point_of point)) number_is o.leaf_at;
      depth_is = s.depth_is;
      deep = rw (← axes_are) (omega (arith, s.depth_is, cell.0.good_path.depth));
      stands = here s.ready.good s.holds.small s.at;
      weights = subst (λ (r : List ℕ). CellWeights d r [] (point_of point) way.weights) root_is located.weights;
      goes = leaf_way;
    }

-- ---- from the leaf's root down to the leaf: so many steps on the way to the point end there, since the leaf is on it

module _ {mark : List ℕ} {width : ℕ} {sheet : List ℕ} {d : ℕ} {p : Point} {r : Standing} (s : StandsIs mark width sheet d p r) where
  abbrev standing : TreeCell
  standing = leaf_in s.good.cells r.number

  pub stands_begun : Begun d r.first
  stands_begun = record { root = _; p = _; weights = s.weights }

  module _ {code : ℕ} (code_is : code ≡ code_length d r.depth) where
    head_is : length mark + code_length s.good.dimension (length standing.path) ≡ length mark + code
    head_is = rw (code_is, s.axes, s.depth_is) refl

    pub stands_room : r.offset + (length mark + code) + width * suc d ≤ length sheet
    stands_room = omega (arith, s.stands.room, head_is, ap (λ (n : ℕ). width * suc n) s.axes)

    samples_in : take (width * suc d) (drop (r.offset + (length mark + code)) sheet) ≡ samples_of s.good.records r.number
    samples_in = rw (← head_is, ← s.axes) s.stands.samples_are

    module _ {there : Place} (down : Descended d r.depth r.first there) where
      reached : Reached d standing.root p r.depth there
      reached = down.reaches s.weights

      path_of : reached.way ≡ standing.path
      path_of = way_one standing.root s.weights.good s.weights.dims reached.goes s.goes
          (rw s.weights.axes (omega (arith, reached.size, s.deep))) (reached.size ∙ s.depth_is)

      weighs_in : CellWeights d standing.root standing.path p there.weights
      weighs_in = subst (λ (q : List ℕ). CellWeights d standing.root q p there.weights) path_of reached.weights

      pub stands_chosen : ChosenIs mark width sheet d p
          (record { number = r.number; depth = r.depth; samples = r.offset + (length mark + code); weights = there.weights })
      stands_chosen = record {
        count = s.count;
        good = s.good;
        axes = s.axes;
        leaf_at = s.leaf_at;
        depth_is = s.depth_is;
        five = weighs_in.size;
        weighs = subst (λ (n : ℕ). Weighs (cell_in s.good.cells r.number) p cube_side (take (suc n) there.weights))
            s.weights.axes weighs_in.weighs;
        room = stands_room;
        samples_are = samples_in;
      }
