-- The laws of the test of a point, of the first root that contains it, and of the weights there.
use Rattle.std.specs.Prelude.{◌≡◌, Bool, true, false, List, [], ◌∷◌, ◌⊎◌, leb, ℕ, zero, suc, ◌+◌, ◌-◌, ◌*◌, ◌≤◌, ◌<◌, T, length, get_or, take}
use Rattle.std.proofs.Math.Path.{refl}
use Rattle.std.proofs.Common.{sym, ap, ◌∙◌, subst, inl, inr, add-one, get_or-take, length-take-le}
use native.Mathlib.Omega.{arith}
use Rattle.std.proofs.Math.Decide.{dec_lt, dec_le}
use borrow.Author.Tests.{eq-eqb, ne_eqb, le-leb, lt-leb}
use Rattle.dimension.specs.Sizes.{is_dimension, root_count, cube_side, box_side, greatest_depth}
use Rattle.dimension.specs.Laws.{dimension, axes_range, at_root, side_first}
use Rattle.bisection.specs.Cells.{Point, coordinate, cell_of}
use Rattle.bisection.specs.Roots.{GoodRoot, roots}
use Rattle.bisection.specs.Weights.{Inside}
use Rattle.bisection.proofs.Theorems.Checked.{at_each, each_fails}
use Rattle.bisection.proofs.Theorems.CodePaths.{some_axes}
use Rattle.bisection.proofs.Theorems.Geometry.{closed_form}
use Rattle.bisection.specs.Theorems.Weights.Axes.{list_of}
use Rattle.bisection.proofs.Theorems.Weights.Axes.{axes_same, list_length, list_at, weighs_axes, axes_weighs}
use Rattle.positions.specs.RootNumbers.{roots_count, roots_good, roots_length}
use Rattle.points.specs.Points.{point_of, is_point, InCube}
use Rattle.points.specs.Roots.{FirstRoot}
use Rattle.points.specs.Theorems.RootCells.{Falls, height, root_weight}
use Rattle.points.proofs.Theorems.RootCells.{falls_by, height_some, height_past, height_falls, inside_falls, falls_axes, falls_inside}
use Rattle.points.specs.Theorems.Cells.{CellAxes}
use Rattle.points.specs.Theorems.CubePoints.{in_range}
use Rattle.points.proofs.Theorems.CubePoints.{point_bytes, point_in_cube}
use Rattle.ways.specs.Ways.{root_at, AtRoot, RootHolds, CellWeights}
use Rattle.ways.specs.InRoot.{some_root}

pub first_side : (d : ℕ) → is_dimension d ≡ true → box_side d 0 ≡ cube_side
unfolding box_side
first_side d e = rw (at_root d (some_axes e)).0 side_first

-- ---- the test of a point: the coordinates before i are in the cube
pub record Testing (d : ℕ) (point : List ℕ) (i : ℕ) : Type 0 where
  pub most : i ≤ d
  pub size : length point ≡ 2 * d
  pub tested : (j : ℕ) → j < i → in_range point j ≡ true

-- the law of each way out, where the code has the dimension's axes in a local
module _ {axes d : ℕ} (is : axes ≡ d) (point : List ℕ) where
  pub test_length : (length point ≡ 2 * axes → ⊥) → false ≡ is_point d point
  unfolding is_point
  test_length h = rw (← is, ne_eqb (length point) (2 * axes) h) refl

  module _ {i : ℕ} (t : Testing axes point i) where
    pub test_outside : i < axes → {most x : ℕ} → most ≡ cube_side → x ≡ coordinate (point_of point) (i + 1) → most < x → false ≡ is_point d point
    unfolding is_point
    test_outside l m q h = let e : i + 1 - 1 ≡ i = omega arith in
        rw (← is, eq-eqb (length point) (2 * axes) t.size) (sym (each_fails axes (in_range point) i l (lt-leb (get_or (point_of point) i 0) cube_side (rw (m, q, e) at h))))

    pub test_end : axes ≤ i → true ≡ is_point d point
    unfolding is_point
    test_end l = rw (← is, eq-eqb (length point) (2 * axes) t.size) (sym (at_each axes (in_range point) (λ j h. t.tested j (omega arith))))

-- ---- five numbers, of which the first are weights: each read at some default, as `from_fn` tells them
pub five : (f : ℕ → ℕ) {w : List ℕ} (a b c e g : ℕ) → length w ≡ 5 → get_or w 0 a ≡ f 0 → get_or w 1 b ≡ f 1 → get_or w 2 c ≡ f 2 → get_or w 3 e ≡ f 3 → get_or w 4 g ≡ f 4 → w ≡ list_of 5 f
unfolding list_of
five f {w = []} a b c e g l p q r s t = absurd (omega arith)
five f {w = x₀ ∷ []} a b c e g l p q r s t = absurd (omega arith)
five f {w = x₀ ∷ x₁ ∷ []} a b c e g l p q r s t = absurd (omega arith)
five f {w = x₀ ∷ x₁ ∷ x₂ ∷ []} a b c e g l p q r s t = absurd (omega arith)
five f {w = x₀ ∷ x₁ ∷ x₂ ∷ x₃ ∷ []} a b c e g l p q r s t = absurd (omega arith)
five f {w = x₀ ∷ x₁ ∷ x₂ ∷ x₃ ∷ x₄ ∷ []} a b c e g l p q r s t = rw (p, q, r, s, t) refl
five f {w = x₀ ∷ x₁ ∷ x₂ ∷ x₃ ∷ x₄ ∷ x₅ ∷ w} a b c e g l p q r s t = absurd (omega arith)

module _ {d : ℕ} {root path : List ℕ} {p : Point} where
  pub axes_cell : GoodRoot root → length root ≡ d → length p ≡ length root → length path ≤ greatest_depth (length root) → {w : ℕ → ℕ}
      → CellAxes root p path cube_side w → CellWeights d root path p (list_of 5 w)
  axes_cell good axes dims deep {w} h = record {
    size = list_length 5 w;
    good = good;
    axes = axes;
    dims = dims;
    weighs = axes_weighs (closed_form root path good deep).sized dims (take (suc (length root)) (list_of 5 w)) (length-take-le (suc (length root)) (list_of 5 w) (omega (arith, list_length 5 w, few)))
        (axes_same w _ (λ j l. sym (get_or-take (suc (length root)) (list_of 5 w) j 0 (omega arith) ∙ list_at 5 w j (omega (arith, few)))) h);
  }
    where
      few : length root ≤ 4
      few = (dimension (length root) good.dimension).few

  pub cell_axes : {w : List ℕ} → length path ≤ greatest_depth (length root) → CellWeights d root path p w → CellAxes root p path cube_side (λ j. get_or w j 0)
  cell_axes {w} deep c = axes_same _ (λ j. get_or w j 0) (λ j l. get_or-take (suc (length root)) w j 0 (omega arith)) (weighs_axes (closed_form root path c.good deep).sized c.dims c.weighs)

-- ---- a root by its number
module _ {d : ℕ} {point : List ℕ} {n : ℕ} (r : AtRoot d point n) where
  small : n < length (roots d)
  small = subst (λ (m : ℕ). n < m) (sym (roots_count d)) r.small

  good : GoodRoot (root_at d n)
  good = roots_good d r.dimension n small

  axes : length (root_at d n) ≡ d
  axes = roots_length d n small

  cube : InCube d (point_of point)
  cube = point_in_cube d point r.good

  dims : length (point_of point) ≡ length (root_at d n)
  dims = cube.axes ∙ sym axes

  entry_low : (j : ℕ) → j < d → 1 ≤ get_or (root_at d n) j 0
  entry_low j l = good.permutation.low j (omega (arith, axes))

  entry_high : (j : ℕ) → j < d → get_or (root_at d n) j 0 ≤ d
  entry_high j l = omega (arith, good.permutation.high j (omega (arith, axes)), axes)

  pub entry_axis : {entry size : ℕ} (j : ℕ) → 1 ≤ j → j ≤ d → size ≡ entry → entry ≡ get_or (root_at d n) (j - 1) 0 → (1 ≤ size) × (2 * size ≤ length point)
  entry_axis j l h f e = rw (f, e) (entry_low (j - 1) (omega arith), omega (arith, entry_high (j - 1) (omega arith), point_bytes d point r.good))

  -- the heights, as the code finds them
  pub height_first : {x j : ℕ} → x ≡ cube_side → j ≡ 0 → x ≡ height (point_of point) (root_at d n) j
  unfolding height
  height_first e q = rw (e, q) refl

  pub height_none : {axes j : ℕ} → axes ≡ d → axes < j → 0 ≡ height (point_of point) (root_at d n) j
  height_none {j = zero} e l = absurd (omega arith)
  height_none {j = suc j} e l = sym (height_past (root_at d n) good (point_of point) j (omega (arith, axes)))

  pub height_entry : {entry size x : ℕ} (j : ℕ) → 1 ≤ j → j ≤ d → size ≡ entry → entry ≡ get_or (root_at d n) (j - 1) 0 → x ≡ coordinate (point_of point) size
      → x ≡ height (point_of point) (root_at d n) j
  height_entry zero l h f e q = absurd (omega arith)
  height_entry (suc j) l h f e q = let o : suc j - 1 ≡ j = omega arith in rw (q, f, e, o) (sym (height_some (root_at d n) good (point_of point) j (omega (arith, axes))))

  -- the root contains the point where they fall
  falls_in : Inside (cell_of (root_at d n) []) (point_of point) → (j : ℕ) → height (point_of point) (root_at d n) (suc j) ≤ height (point_of point) (root_at d n) j
  falls_in i = height_falls (root_at d n) good (point_of point) (inside_falls (root_at d n) good (point_of point) dims i)

  -- x and y the heights at j and at j + 1
  module _ (i : Inside (cell_of (root_at d n) []) (point_of point)) (j : ℕ) {x y : ℕ} (e : x ≡ height (point_of point) (root_at d n) j) (f : y ≡ height (point_of point) (root_at d n) (j + 1)) where
    pub weight_sub : y ≤ x
    weight_sub = omega (arith, falls_in i j, ap (height (point_of point) (root_at d n)) (add-one j))

  pub holds_not : {x y : ℕ} (j : ℕ) → x ≡ height (point_of point) (root_at d n) j → y ≡ height (point_of point) (root_at d n) (suc j) → x < y → RootHolds d point n false
  holds_not j p q l = record { inside = λ e. absurd (subst T (sym e) tt); outside = λ e i. omega (arith, falls_in i j) }

  pub holds_all : {x y z u : ℕ} → x ≡ height (point_of point) (root_at d n) 1 → y ≡ height (point_of point) (root_at d n) 2 → z ≡ height (point_of point) (root_at d n) 3
      → u ≡ height (point_of point) (root_at d n) 4 → y ≤ x → z ≤ y → u ≤ z → RootHolds d point n true
  holds_all {x} {y} {z} {u} hx hy hz hu a b c = record { inside = λ e. falls_inside (root_at d n) good (point_of point) dims f; outside = λ e. absurd (subst T e tt) }
    where
      next : (j : ℕ) → j < 3 → height (point_of point) (root_at d n) (suc (suc j)) ≤ height (point_of point) (root_at d n) (suc j)
      next zero l = omega arith
      next (suc zero) l = omega arith
      next (suc (suc zero)) l = omega arith
      next (suc (suc (suc j))) l = absurd (omega arith)

      some : (j : ℕ) → j < length (root_at d n) → height (point_of point) (root_at d n) (suc j) ≡ coordinate (point_of point) (get_or (root_at d n) j 0)
      some = height_some (root_at d n) good (point_of point)

      f : Falls (coordinate (point_of point)) cube_side (root_at d n)
      f = falls_by (coordinate (point_of point)) cube_side (root_at d n) (λ l. cube.in_range (get_or (root_at d n) 0 0) (entry_low 0 (omega (arith, axes))) (entry_high 0 (omega (arith, axes))))
          (λ j l. omega (arith, some j (omega arith), some (suc j) l, next j (omega (arith, axes, (dimension d r.dimension).few))))

  -- the last test, where those before it are passed
  pub holds_last : {x y z u : ℕ} → x ≡ height (point_of point) (root_at d n) 1 → y ≡ height (point_of point) (root_at d n) 2 → z ≡ height (point_of point) (root_at d n) 3
      → u ≡ height (point_of point) (root_at d n) 4 → y ≤ x → z ≤ y → RootHolds d point n (leb u z)
  holds_last {z = z} {u = u} hx hy hz hu a b = go (dec_le u z)
    where
      go : Dec (u ≤ z) → RootHolds d point n (leb u z)
      go (yes l) = rw (le-leb u z l) (holds_all hx hy hz hu a b l)
      go (no l) = rw (lt-leb u z (omega arith)) (holds_not 3 hz hu (omega arith))

  -- a test before it fails
  pub holds_fails : {x y z : ℕ} → x ≡ height (point_of point) (root_at d n) 1 → y ≡ height (point_of point) (root_at d n) 2 → z ≡ height (point_of point) (root_at d n) 3
      → ((y ≤ x) × (y < z)) ⊎ (x < y) → {b : Bool} → b ≡ false → RootHolds d point n b
  holds_fails hx hy hz (inl l) e = rw e (holds_not 2 hy hz l.1)
  holds_fails hx hy hz (inr l) e = rw e (holds_not 1 hx hy l)

  -- and then its falls are the weights there
  abbrev weight : ℕ → ℕ
  weight j = root_weight (point_of point) (root_at d n) j

  pub started : Inside (cell_of (root_at d n) []) (point_of point) → {w : List ℕ} (x y z u v : ℕ) → length w ≡ 5 → get_or w 0 x ≡ weight 0 → get_or w 1 y ≡ weight 1 → get_or w 2 z ≡ weight 2
      → get_or w 3 u ≡ weight 3 → get_or w 4 v ≡ weight 4 → CellWeights d (root_at d n) [] (point_of point) w
  started i x y z u v l p q r s t = rw (five weight x y z u v l p q r s t) (axes_cell good axes dims (omega arith) (falls_axes (root_at d n) good (point_of point) dims (inside_falls (root_at d n) good (point_of point) dims i)))

-- ---- the search for the first root
pub record Searching (d : ℕ) (point : List ℕ) (n : ℕ) : Type 0 where
  pub dimension : is_dimension d ≡ true
  pub good : is_point d point ≡ true
  pub none_before : (i : ℕ) → i < n → Inside (cell_of (root_at d i) []) (point_of point) → ⊥

pub search_start : {d : ℕ} {point : List ℕ} → is_dimension d ≡ true → is_point d point ≡ true → Searching d point 0
search_start e g = record { dimension = e; good = g; none_before = λ i l. absurd (omega arith) }

module _ {d : ℕ} {point : List ℕ} {n : ℕ} (s : Searching d point n) where
  left : n < length (roots d)
  left = let r = some_root d s.dimension (point_of point) (point_in_cube d point s.good) in go r.number r.small r.inside (dec_lt r.number n)
    where
      go : (m : ℕ) → m < length (roots d) → Inside (cell_of (root_at d m) []) (point_of point) → Dec (m < n) → n < length (roots d)
      go m l i (yes h) = absurd (s.none_before m h i)
      go m l i (no h) = omega arith

  pub at_root_n : AtRoot d point n
  at_root_n = record { dimension = s.dimension; good = s.good; small = subst (λ (m : ℕ). n < m) (roots_count d) left }

  pub search_small : {count : ℕ} → count ≡ root_count d → count ≤ n → ⊥
  search_small e l = omega (arith, e, at_root_n.small)

  pub search_end : {b : Bool} → RootHolds d point n b → b ≡ true → FirstRoot (roots d) (point_of point) n
  search_end h e = record { small = left; inside = h.inside e; none_before = s.none_before }

pub first_at : {d : ℕ} {point : List ℕ} {n : ℕ} → is_dimension d ≡ true → is_point d point ≡ true → FirstRoot (roots d) (point_of point) n → AtRoot d point n
first_at {d} {n = n} e g f = record { dimension = e; good = g; small = subst (λ (m : ℕ). n < m) (roots_count d) f.small }

-- the laws that `Placed::height` uses
pub ruleset heights = (axes_range, height_first, height_none, height_entry, entry_axis)
