-- The laws of the steps down: the weights of a half, and that each step goes on the way.
use Rattle.std.specs.Prelude.{◌≡◌, refl, Bool, true, false, List, [], ◌∷◌, ◌++◌, ltb, ℕ, suc, ◌+◌, ◌*◌, ◌^◌, ◌≤◌, ◌<◌, length, get_or, take}
use Rattle.std.proofs.Common.{sym, ap, ◌∙◌, subst, inl, inr, arith, pow_mono, get_or-take, lt-ltb, le-ltb}
use Rattle.std.proofs.Math.Decide.{dec_lt}
use Rattle.std.specs.Int.{from_bool}
use Rattle.dimension.specs.Sizes.{cube_side, greatest_depth, split_place}
use Rattle.dimension.specs.Laws.{Dimension, axes_dimension, dimension, depth_small, split_range}
use Rattle.bisection.specs.Cells.{Point, cell_of}
use Rattle.bisection.specs.Roots.{roots}
use Rattle.bisection.specs.Weights.{Inside}
use Rattle.bisection.proofs.Theorems.Weights.Axes.{weight_most}
use Rattle.positions.specs.Positions.{start_of}
use Rattle.points.specs.Roots.{FirstRoot}
use Rattle.points.specs.Theorems.Halving.{Fits, down}
use Rattle.points.proofs.Theorems.RootCells.{side_some}
use Rattle.points.specs.Theorems.Cells.{CellAxes, split_of}
use Rattle.points.proofs.Theorems.Cells.{one_longer, step_down, in_half, half_fits}
use Rattle.ways.specs.declared.Stepped.{Stepped}
use Rattle.ways.specs.declared.Place.{Place}
use Rattle.ways.specs.Ways.{root_at, LocatedIs, Chosen, low, high, SteppedIs, CellWeights, Reached, Begun, Descended}
use Rattle.ways.specs.WayLaws.{WayStep, way_start, way_more, start_more}
use Rattle.ways.specs.Starts.{first_at, five, axes_cell, cell_axes}

-- weights that can be doubled
pub record StepReady (w : List ℕ) (k : ℕ) : Type 0 where
  pub some : 1 ≤ k
  pub few : k ≤ 4
  pub first : get_or w 0 0 ≤ cube_side
  pub last : get_or w k 0 ≤ cube_side

pub record HalfReady (w : List ℕ) (k : ℕ) (one : Bool) (j : ℕ) : Type 0 where
  pub ready : StepReady w k
  pub chosen : Chosen k (λ i. get_or w i 0) one
  pub place : j ≤ 4

-- the weight at place j of a half
unfoldable pub half : List ℕ → ℕ → Bool → ℕ → ℕ
half w k one j = down (from_bool one) k (λ i. get_or w i 0) j

-- the step that the comparison of the first weight with the last tells
chosen_by : (k : ℕ) (w : ℕ → ℕ) → Chosen k w (ltb (w 0) (w k))
chosen_by k w = go (dec_lt (w 0) (w k))
  where
    go : Dec (w 0 < w k) → Chosen k w (ltb (w 0) (w k))
    go (yes l) = rw (lt-ltb (w 0) (w k) l) (high l)
    go (no l) = rw (le-ltb (w 0) (w k) (omega arith)) (low (omega arith))

pub half_ready : {w : List ℕ} {k j : ℕ} → StepReady w k → j < 5 → HalfReady w k (ltb (get_or w 0 0) (get_or w k 0)) j
half_ready {w} {k} r l = record { ready = r; chosen = chosen_by k (λ i. get_or w i 0); place = omega arith }

pub stepped : {w r : List ℕ} {k : ℕ} {one : Bool} (x y z u v : ℕ) → one ≡ ltb (get_or w 0 0) (get_or w k 0) → length r ≡ 5 → get_or r 0 x ≡ half w k one 0 → get_or r 1 y ≡ half w k one 1
    → get_or r 2 z ≡ half w k one 2 → get_or r 3 u ≡ half w k one 3 → get_or r 4 v ≡ half w k one 4 → SteppedIs k w (record { one = one; weights = r })
unfolding half
stepped {w} {k = k} {one = one} x y z u v is l p q r s t = record { chosen = rw is (chosen_by k (λ i. get_or w i 0)); weights = five (down (from_bool one) k (λ i. get_or w i 0)) x y z u v l p q r s t }

chosen_fits : {k : ℕ} {one : Bool} {w : ℕ → ℕ} → Chosen k w one → Fits (from_bool one) k w
chosen_fits (low l) = l
chosen_fits (high l) = omega arith

child_few : (one : Bool) → from_bool one ≤ 1
child_few true = omega arith
child_few false = omega arith

-- one step more
module _ {d : ℕ} {root : List ℕ} {p : Point} {i : ℕ} {r : Place} (g : Reached d root p i r) (deep : i < greatest_depth d)
    {k : ℕ} (is : k ≡ split_place d i) {s : Stepped} (t : SteppedIs k r.weights s) where
  c : CellWeights d root g.way p r.weights
  c = g.weights

  below : length g.way < greatest_depth (length root)
  below = subst (λ (d : ℕ). length g.way < greatest_depth d) (sym c.axes) (rw g.size deep)

  split : k ≡ split_of root g.way
  split = rw (c.axes, g.size) is

  axes : CellAxes root p g.way cube_side (λ j. get_or r.weights j 0)
  axes = cell_axes (omega (arith, below)) c

  fits : Fits (from_bool s.one) (split_of root g.way) (λ j. get_or r.weights j 0)
  fits = rw split at (chosen_fits t.chosen)

  turns : {one : Bool} → Chosen k (λ j. get_or r.weights j 0) one → WayStep root p g.way (from_bool one)
  turns (low l) = inl refl
  turns (high l) = inr (refl, λ i. let h : get_or r.weights k 0 ≤ get_or r.weights 0 0 = rw split (half_fits root c.good c.dims g.way 0 below axes i) in omega arith)

  reached_next : Reached d root p (suc i) (record { position = 2 * r.position + from_bool s.one; weights = s.weights })
  reached_next = record {
    way = g.way ++ from_bool s.one ∷ [];
    size = one_longer g.way (from_bool s.one) ∙ ap suc g.size;
    goes = way_more g.goes (from_bool s.one) (in_half root c.good c.dims g.way (from_bool s.one) below side_some axes fits) (turns t.chosen);
    weights = rw (t.weights, split) (axes_cell c.good c.axes c.dims (omega (arith, one_longer g.way (from_bool s.one), below))
        (step_down root c.good g.way (from_bool s.one) below fits axes));
    position = rw g.position (subst (λ (n : ℕ). 2 * start_of n g.way + from_bool s.one ≡ start_of (suc n) (g.way ++ from_bool s.one ∷ [])) g.size (sym (start_more g.way (from_bool s.one))));
  }

-- in the loop, after i steps
pub record Descending (d n : ℕ) (w v : List ℕ) (position i : ℕ) : Type 0 where
  pub begun : Begun d w
  pub deep : n ≤ greatest_depth d
  pub most : i ≤ n
  pub under : position < 2 ^ i
  pub descended : Descended d i w (record { position = position; weights = v })

cell_inside : {d : ℕ} {root path : List ℕ} {p : Point} {w : List ℕ} → CellWeights d root path p w → Inside (cell_of root path) p
cell_inside {root = root} {w = w} c = record { W = cube_side; some = side_some; ws = take (suc (length root)) w; weighs = c.weighs }

pub descend_start : {d n : ℕ} {w : List ℕ} → Begun d w → n ≤ greatest_depth d → Descending d n w w 0 0
unfolding start_of
descend_start b l = record {
  begun = b;
  deep = l;
  most = omega arith;
  under = omega arith;
  descended = record { reaches = λ c. record { way = []; size = refl; goes = way_start (cell_inside c); weights = c; position = refl } };
}

module _ {d n : ℕ} {w v : List ℕ} {position i : ℕ} (g : Descending d n w v position i) where
  here : Reached d g.begun.root g.begun.p i (record { position = position; weights = v })
  here = g.descended.reaches g.begun.weights

  dimension_is : Dimension d
  dimension_is = rw g.begun.weights.axes at (dimension (length g.begun.root) g.begun.weights.good.dimension)

  pub down_ready : {k : ℕ} → k ≡ split_place d i → StepReady v k
  down_ready {k} is = record { some = range.0; few = omega (arith, range.1, dimension_is.few); first = most 0 (omega arith); last = most k (omega (arith, range.1)) }
    where
      c : CellWeights d g.begun.root here.way g.begun.p v
      c = here.weights

      range : (1 ≤ k) × (k ≤ d)
      range = rw is (split_range d i (omega (arith, dimension_is.two)))

      most : (j : ℕ) → j ≤ d → get_or v j 0 ≤ cube_side
      most j l = rw (get_or-take (suc (length g.begun.root)) v j 0 (omega (arith, c.axes))) at (weight_most c.weighs j)

  pub descend_next : {k : ℕ} → k ≡ split_place d i → {s : Stepped} → SteppedIs k v s → i < n → {x : ℕ} → x ≡ from_bool s.one → Descending d n w s.weights (2 * position + x) (suc i)
  descend_next is {s = s} t l e = rw e (record {
    begun = g.begun;
    deep = g.deep;
    most = l;
    under = omega (arith, g.under, child_few s.one);
    descended = record { reaches = λ c. reached_next (g.descended.reaches c) (omega (arith, g.deep)) is t };
  })

  -- a position twice, and a step more, fit a word
  small : position < 2 ^ 60
  small = omega (arith, g.under, pow_mono {i = i} {j = 60} (omega (arith, g.deep, g.most, depth_small d dimension_is)))

  pub double_fits : 2 * position < 2 ^ 64
  double_fits = omega (arith, small)

  pub position_fits : {x : ℕ} (one : Bool) → x ≡ from_bool one → 2 * position + x < 2 ^ 64
  position_fits one e = omega (arith, small, child_few one)

-- the whole way
pub located : {d n : ℕ} {p : Point} {w : List ℕ} {k : ℕ} {r : Place} → FirstRoot (roots d) p n → CellWeights d (root_at d n) [] p w → k ≡ greatest_depth d → Descended d k w r
    → LocatedIs d p (record { root = n; weights = w; position = r.position })
located {d} {n} {p} {w} {k} {r} f c e h = let g = rw e at (h.reaches c) in record { first = f; weights = c; way = g.way; size = g.size; goes = g.goes; position = g.position }

-- the laws that `way_to` uses
pub ruleset whole_way = (axes_dimension, first_at, located)
