-- The cell of a root and a path is drawn by its name, for every dimension d: on the axis of each entry the
-- vertices have the closed form, in the box whose low corner the orthant bytes give.
use Rattle.std.specs.Prelude.{◌≡◌, Bool, true, false, cond, ◌≢◌, eqb, leb, length, get_or, set, replicate}
use Rattle.std.proofs.Math.Path.{refl}
use Rattle.std.proofs.Common.{sym, ap, ◌∙◌, subst, arith, add-zero, add-suc, suc-add, zero-add, length-set, get_or-set_same, get_or-set_other, le-leb}
use mathlib.Core.List.{List, [], ◌∷◌, ◌++◌}
use Rattle.std.proofs.Math.Logic.{⊎_elim}
use Prim.Native.Nat.{ℕ, zero, suc, ◌+◌, ◌-◌, ◌/◌, ◌≤◌, ◌<◌}
use Rattle.std.proofs.Math.Decide.{dec_le, ℕ_discrete}
use Rattle.std.proofs.Math.Dec.{leb-suc-suc, leb-suc-zero, leb-zero}
use Rattle.std.proofs.lemmas.List.{length-replicate}
use Rattle.std.proofs.lemmas.Bool.{lt-leb}
use Rattle.dimension.specs.Sizes.{cube_side, greatest_depth, split_place, box_depth, box_side, side_after, level}
use Rattle.dimension.specs.Laws.{Within, Turned, deeper, split_range, at_root, side_first, side_half, side_even, box_under}
use Rattle.bisection.specs.Cells.{Point, Cell, coordinate, vertex, child, moved, corners, root_cell, cell_below}
use Rattle.bisection.specs.Roots.{Permutation}
use Rattle.bisection.specs.Codes.{axis, minus, turned, stepped, high, orthant, Name, step, root_name, name_below}
use Rattle.bisection.specs.Theorems.Lists.{middle, shifted}
use Rattle.bisection.proofs.Theorems.Lists.{child_set, child_shifted, shifted_before, shifted_at, shifted_past, shifted_length, get_or_midpoint, length_midpoint}
use Rattle.bisection.specs.Theorems.Axis.{closed, row0, row1, Order, under, same, over, half_low}
use Rattle.bisection.proofs.Theorems.Axis.{closed_near, closed_far, row0_at, row0_other, row1_before, row1_at, row1_past, order, child0_closed, child1_moved, child1_first, child1_past, level_end}
use Rattle.bisection.specs.Theorems.Entries.{Signed}
use Rattle.bisection.proofs.Theorems.Entries.{axis_negated, minus_negated, turned_before, turned_at, turned_past}
use Rattle.bisection.specs.Theorems.Passing.{Passes}
use Rattle.bisection.proofs.Theorems.Passing.{step_passes, orthant_high, signed_stepped}
use Rattle.bisection.proofs.Theorems.Paths.{plain_minus, plain_axis}
use Rattle.bisection.specs.Theorems.Drawn.{Distinct, Drawn, Sized, along, box_low}

pub box_low_snoc : (a M : ℕ) (os : List ℕ) (o : ℕ) → box_low a M (os ++ o ∷ []) ≡ box_low a M os + cond (high o a) (side_after (suc (M + length os))) 0
unfolding box_low
box_low_snoc a M [] o = rw (add-zero M) (omega arith)
box_low_snoc a M (p ∷ os) o = rw (add-suc M (length os), ← suc-add M (length os)) (omega (arith, box_low_snoc a (suc M) os o))

-- a child of a cell, one axis at a time
module _ (d k : ℕ) (vs : Cell) (z : Sized d vs) (kd : k ≤ d) where
  abbrev m : Point
  m = middle k vs

  same_dims : length (vertex vs 0) ≡ length (vertex vs k)
  same_dims = z.dims 0 (omega arith) ∙ sym (z.dims k kd)

  pub middle_length : length (middle k vs) ≡ d
  middle_length = length_midpoint (vertex vs 0) (vertex vs k) same_dims ∙ z.dims 0 (omega arith)

  pub middle_at : (a : ℕ) → coordinate (middle k vs) a ≡ (along vs a 0 + along vs a k) / 2
  middle_at a = get_or_midpoint (vertex vs 0) (vertex vs k) (a - 1) same_dims

  room : k < length vs
  room = omega (arith, z.size)

  pub child0_along : (a j : ℕ) → along (child 0 k vs) a j ≡ row0 k (along vs a) j
  child0_along a j = rw (child_set k vs room) (go (ℕ_discrete j k))
    where
      go : Dec (j ≡ k) → coordinate (vertex (set vs k m) j) a ≡ row0 k (along vs a) j
      go (yes e) = rw (row0_at k (along vs a) j e, e, get_or-set_same vs k m [] room) (middle_at a)
      go (no e) = rw (row0_other k (along vs a) j e, get_or-set_other vs k j m [] e) refl

  pub child1_along : (b a j : ℕ) → along (child (suc b) k vs) a j ≡ row1 k (along vs a) j
  child1_along b a j = rw (child_shifted b k vs) (go (order j k))
    where
      go : Order j k → coordinate (vertex (shifted k m vs) j) a ≡ row1 k (along vs a) j
      go (under h) = rw (row1_before k (along vs a) j h, shifted_before [] k m vs room j h) refl
      go (same h) = rw (row1_at k (along vs a) j h, shifted_at [] k m vs room j h) (middle_at a)
      go (over h) = rw (row1_past k (along vs a) j h, shifted_past [] k m vs room j h) refl

  pub sized_child : (b : ℕ) → Sized d (child b k vs)
  sized_child zero = rw (child_set k vs room) (record { size = length-set vs k m ∙ z.size; dims = λ j l. go j l (ℕ_discrete j k) })
    where
      go : (j : ℕ) → j ≤ d → Dec (j ≡ k) → length (vertex (set vs k m) j) ≡ d
      go j l (yes e) = rw (e, get_or-set_same vs k m [] room) middle_length
      go j l (no e) = rw (get_or-set_other vs k j m [] e) (z.dims j l)
  sized_child (suc b) = rw (child_shifted b k vs) (record { size = shifted_length [] k m vs room ∙ z.size; dims = λ j l. go j l (order j k) })
    where
      go : (j : ℕ) → j ≤ d → Order j k → length (vertex (shifted k m vs) j) ≡ d
      go j l (under h) = rw (shifted_before [] k m vs room j h) (z.dims (suc j) (omega arith))
      go j l (same h) = rw (shifted_at [] k m vs room j h) middle_length
      go j l (over h) = rw (shifted_past [] k m vs room j h) (z.dims j l)

-- a step within the box, k = n + 1: entries e, box by low side and side
module _ {d : ℕ} {es : List ℕ} (g : Signed d es) (n : ℕ) (nd : suc n ≤ d) (small : d < 128) (vs : Cell) (z : Sized d vs) (lo : ℕ → ℕ) (s : ℕ)
    (is : (i : ℕ) → i < d → (j : ℕ) → j ≤ d → along vs (axis (get_or es i 0)) j ≡ closed (lo (axis (get_or es i 0))) s (minus (get_or es i 0)) i (suc n) j) where
  es_room : n < length es
  es_room = omega (arith, g.size)

  step_closed : (b i : ℕ) → i < d → (j : ℕ) → j ≤ d
      → along (child b (suc n) vs) (axis (get_or (stepped b (suc n) es) i 0)) j ≡ closed (lo (axis (get_or (stepped b (suc n) es) i 0))) s (minus (get_or (stepped b (suc n) es) i 0)) i n j
  unfolding stepped
  step_closed zero i l j h = child0_along d (suc n) vs z nd (axis (get_or es i 0)) j
      ∙ child0_closed (lo (axis (get_or es i 0))) s (minus (get_or es i 0)) n d nd (along vs (axis (get_or es i 0))) i (is i l) j h
  step_closed (suc b) i l j h = go (order i n)
    where
      a : ℕ
      a = axis (get_or (turned (suc n) es) i 0)

      first : axis (get_or es 0 0) < 128
      first = omega (arith, g.high 0 (omega arith))

      go : Order i n → along (child (suc b) (suc n) vs) a j ≡ closed (lo a) s (minus (get_or (turned (suc n) es) i 0)) i n j
      go (under q) = rw (turned_before n es es_room i q) (child1_along d (suc n) vs z nd b (axis (get_or es (suc i) 0)) j
          ∙ child1_moved (lo (axis (get_or es (suc i) 0))) s (minus (get_or es (suc i) 0)) n d nd (along vs (axis (get_or es (suc i) 0))) i q (is (suc i) (omega arith)) j h)
      go (same q) = rw (turned_at n es es_room i q, axis_negated (get_or es 0 0) first, minus_negated (get_or es 0 0) first, q) (child1_along d (suc n) vs z nd b (axis (get_or es 0 0)) j
          ∙ child1_first (lo (axis (get_or es 0 0))) s (minus (get_or es 0 0)) n d nd (along vs (axis (get_or es 0 0))) (is 0 (omega arith)) j h)
      go (over q) = rw (turned_past n es es_room i q) (child1_along d (suc n) vs z nd b (axis (get_or es i 0)) j
          ∙ child1_past (lo (axis (get_or es i 0))) s (minus (get_or es i 0)) n d nd (along vs (axis (get_or es i 0))) i q (is i l) j h)

half_low_is : (lo s : ℕ) (t : Bool) → lo + cond t (s / 2) 0 ≡ half_low lo s t
half_low_is lo s true = refl
half_low_is lo s false = omega arith

module _ (d D : ℕ) (d0 : 0 < d) (small : d < 128) (deep : D < greatest_depth d) where
  n : ℕ
  n = split_place d D - 1

  split_suc : split_place d D ≡ suc n
  unfolding n
  split_suc = omega (arith, (split_range d D d0).0)

  n_in : suc n ≤ d
  unfolding n
  n_in = omega (arith, split_range d D d0)

  pub drawn_step : (m : Name) (vs : Cell) → Passes d D m → Drawn d D m vs → (b : ℕ) → Drawn d (suc D) (step d D b m) (child b (split_place d D) vs)
  unfolding step box_side
  drawn_step m vs p r b = record { sized = sized_child d (split_place d D) vs r.sized (split_range d D d0).1 b; reads = ⊎_elim within turn (deeper d D d0) }
    where
      es : List ℕ
      es = stepped b (split_place d D) m.entries

      a : ℕ → ℕ
      a i = axis (get_or es i 0)

      os : List ℕ
      os = m.orthants

      s : ℕ
      s = side_after (box_depth d D)

      os' : List ℕ
      os' = cond (eqb (level d (suc D)) 0) (os ++ orthant es ∷ []) os

      inside : (i : ℕ) → i < d → (j : ℕ) → j ≤ d → along (child b (split_place d D) vs) (a i) j ≡ closed (box_low (a i) 0 os) s (minus (get_or es i 0)) i n j
      inside = rw split_suc (step_closed p.signed n n_in small vs r.sized (λ a. box_low a 0 os) s (rw split_suc at r.reads) b)

      within : Within d D → (i : ℕ) → i < d → (j : ℕ) → j ≤ d
          → along (child b (split_place d D) vs) (a i) j ≡ closed (box_low (a i) 0 os') (side_after (box_depth d (suc D))) (minus (get_or es i 0)) i (split_place d (suc D)) j
      within w i l j h = rw (w.level, w.box) (subst (λ (k : ℕ). along (child b (split_place d D) vs) (a i) j ≡ closed (box_low (a i) 0 os) s (minus (get_or es i 0)) i k j) (omega (arith, w.split, split_suc)) (inside i l j h))

      turn : Turned d D → (i : ℕ) → i < d → (j : ℕ) → j ≤ d
          → along (child b (split_place d D) vs) (a i) j ≡ closed (box_low (a i) 0 os') (side_after (box_depth d (suc D))) (minus (get_or es i 0)) i (split_place d (suc D)) j
      turn w i l j h = rw (w.level, w.box, w.split, box_low_snoc (a i) 0 os (orthant es), zero-add (length os), p.boxes.count, side_half (box_depth d D), orthant_high signed i l, half_low_is (box_low (a i) 0 os) s (minus (get_or es i 0)))
          (subst (λ (k : ℕ). along (child b (split_place d D) vs) (a i) j ≡ closed (box_low (a i) 0 os) s (minus (get_or es i 0)) i k j) (omega (arith, w.last, split_suc)) (inside i l j h)
          ∙ level_end (box_low (a i) 0 os) s (minus (get_or es i 0)) i d j (side_even (box_depth d D) (box_under d D d0 deep)) h)
        where
          signed : Signed d es
          signed = rw split_suc (signed_stepped p.signed n n_in small b)

distinct_rest : {n x : ℕ} {axes : List ℕ} → Distinct n (x ∷ axes) → Distinct n axes
distinct_rest t = record {
  low = λ i l. t.low (suc i) (omega arith);
  high = λ i l. t.high (suc i) (omega arith);
  apart = λ i j l m e. omega (arith, t.apart (suc i) (suc j) (omega arith) (omega arith) e);
}

length_moved : (x : ℕ) (v : Point) → length (moved x v) ≡ length v
unfolding moved
length_moved x v = length-set v (x - 1) (coordinate v x + cube_side)

moved_at : (x : ℕ) (v : Point) → 1 ≤ x → x ≤ length v → coordinate (moved x v) x ≡ coordinate v x + cube_side
unfolding moved
moved_at x v h l = get_or-set_same v (x - 1) (coordinate v x + cube_side) 0 (omega arith)

moved_other : (x a : ℕ) (v : Point) → 1 ≤ x → 1 ≤ a → x ≢ a → coordinate (moved x v) a ≡ coordinate v a
unfolding moved
moved_other x a v h l n = get_or-set_other v (x - 1) (a - 1) (coordinate v x + cube_side) 0 (omega arith)

corners_size : (v : Point) (axes : List ℕ) → length (corners v axes) ≡ suc (length axes)
unfolding corners
corners_size v [] = refl
corners_size v (x ∷ axes) = ap suc (corners_size (moved x v) axes)

corners_dims : (v : Point) (axes : List ℕ) (j : ℕ) → j ≤ length axes → length (vertex (corners v axes) j) ≡ length v
unfolding corners
corners_dims v [] zero h = refl
corners_dims v [] (suc j) h = absurd (omega arith)
corners_dims v (x ∷ axes) zero h = refl
corners_dims v (x ∷ axes) (suc j) h = corners_dims (moved x v) axes j (omega arith) ∙ length_moved x v

-- an axis that is not among them keeps its coordinate
corners_off : (v : Point) (axes : List ℕ) (a : ℕ) → 1 ≤ a → ((t : ℕ) → t < length axes → 1 ≤ get_or axes t 0) → ((t : ℕ) → t < length axes → get_or axes t 0 ≢ a)
    → (j : ℕ) → j ≤ length axes → coordinate (vertex (corners v axes) j) a ≡ coordinate v a
unfolding corners
corners_off v [] a h low off zero l = refl
corners_off v [] a h low off (suc j) l = absurd (omega arith)
corners_off v (x ∷ axes) a h low off zero l = refl
corners_off v (x ∷ axes) a h low off (suc j) l =
    corners_off (moved x v) axes a h (λ t q. low (suc t) (omega arith)) (λ t q. off (suc t) (omega arith)) j (omega arith)
    ∙ moved_other x a v (low 0 (omega arith)) h (off 0 (omega arith))

-- the axis at place t moves between vertices t and t + 1
corners_on : (v : Point) (axes : List ℕ) → Distinct (length v) axes → (t : ℕ) → t < length axes → (j : ℕ) → j ≤ length axes
    → coordinate (vertex (corners v axes) j) (get_or axes t 0) ≡ cond (leb j t) (coordinate v (get_or axes t 0)) (coordinate v (get_or axes t 0) + cube_side)
unfolding corners
corners_on v [] c t l j h = absurd (omega arith)
corners_on v (x ∷ axes) c t l zero h = rw (leb-zero t) refl
corners_on v (x ∷ axes) c zero l (suc j) h = rw (leb-suc-zero j)
    (corners_off (moved x v) axes x (c.low 0 (omega arith)) (λ t q. c.low (suc t) (omega arith)) (λ t q e. omega (arith, c.apart (suc t) 0 (omega arith) (omega arith) e)) j (omega arith)
    ∙ moved_at x v (c.low 0 (omega arith)) (c.high 0 (omega arith)))
corners_on v (x ∷ axes) c (suc t) l (suc j) h = rw (leb-suc-suc j t)
    (corners_on (moved x v) axes (rw (length_moved x v) (distinct_rest c)) t (omega arith) j (omega arith)
    ∙ rw (moved_other x (get_or axes t 0) v (c.low 0 (omega arith)) (c.low (suc t) (omega arith)) (λ e. omega (arith, c.apart 0 (suc t) (omega arith) (omega arith) e))) refl)

zero_at : (n a : ℕ) → ◌≡◌ {A = ℕ} (get_or (replicate n 0) a 0) 0
zero_at zero a = refl
zero_at (suc n) zero = refl
zero_at (suc n) (suc a) = zero_at n a

root_closed : (S i d j : ℕ) → j ≤ d → cond (leb j i) 0 (0 + S) ≡ closed 0 S false i d j
root_closed S i d j h = go (dec_le j i)
  where
    go : Dec (j ≤ i) → cond (leb j i) 0 (0 + S) ≡ closed 0 S false i d j
    go (yes l) = rw (le-leb j i l, closed_near 0 S false i d j l) refl
    go (no l) = let q : i < j = omega arith in rw (lt-leb j i q, closed_far 0 S false i d j q h) refl

-- a root's cell is drawn by its name
pub drawn_root : (root : List ℕ) → 0 < length root → length root < 128 → Permutation root → Drawn (length root) 0 (root_name root) (root_cell root)
unfolding root_cell
drawn_root root d0 small p = record {
  sized = record { size = corners_size origin root; dims = λ j l. corners_dims origin root j l ∙ length-replicate {A = ℕ} (length root) 0 };
  reads = λ i l j h. rw (is i l, plain i l, (at_root (length root) d0).1, low (get_or root i 0), side)
      (corners_on origin root distinct i l j h ∙ rw (zero_at (length root) (get_or root i 0 - 1)) (root_closed cube_side i (length root) j h));
}
  where
    origin : Point
    origin = replicate (length root) 0

    plain : (i : ℕ) → i < length root → minus (get_or root i 0) ≡ false
    plain i l = plain_minus (get_or root i 0) (omega (arith, p.high i l))

    is : (i : ℕ) → i < length root → axis (get_or root i 0) ≡ get_or root i 0
    is i l = plain_axis (get_or root i 0) (plain i l)

    distinct : Distinct (length origin) root
    distinct = rw (length-replicate {A = ℕ} (length root) 0) (record { low = p.low; high = p.high; apart = p.apart })

    low : (a : ℕ) → box_low a 0 [] ≡ 0
    low a = unfold box_low in refl

    side : box_side (length root) 0 ≡ cube_side
    side = unfold box_side in rw (at_root (length root) d0).0 side_first

pub drawn_below : (d : ℕ) → 0 < d → d < 128 → (path : List ℕ) (D : ℕ) (m : Name) (vs : Cell) → D + length path ≤ greatest_depth d → Passes d D m → Drawn d D m vs
    → Drawn d (D + length path) (name_below d D m path) (cell_below d D vs path)
unfolding name_below cell_below
drawn_below d d0 small [] D m vs h p r = rw add-zero r
drawn_below d d0 small (b ∷ path) D m vs h p r = rw (add-suc, ← suc-add)
    (drawn_below d d0 small path (suc D) (step d D b m) (child b (split_place d D) vs) (omega arith) (step_passes d D d0 small m p b) (drawn_step d D d0 small (omega arith) m vs p r b))
