-- The cell of a good root and a good path, for every dimension: its vertices have the closed form; where it is
-- split the midpoint is whole; and a signed entry among the first k is a move by the box's side on its axis.
use Rattle.std.specs.Prelude.{◌≡◌, refl, Bool, true, false, List, ◌≢◌, ℕ, suc, ◌+◌, ◌%◌, ◌≤◌, ◌<◌, length, get_or}
use Rattle.std.proofs.Common.{sym, ap, ◌∙◌, subst, arith, zero-add}
use Rattle.std.proofs.Math.Decide.{dec_le}
use Rattle.dimension.specs.Sizes.{cube_side, greatest_depth, split_place, box_side, box_depth}
use Rattle.dimension.specs.Laws.{at_root, side_first, split_range, side_even, box_under}
use Rattle.bisection.specs.Cells.{Cell, coordinate, vertex, root_cell, cell_of}
use Rattle.bisection.specs.Roots.{GoodRoot}
use Rattle.bisection.specs.Codes.{axis, minus, Name, root_name, name_of}
use Rattle.bisection.specs.Theorems.Axis.{closed, near, far, Order, under, same, over}
use Rattle.bisection.proofs.Theorems.Axis.{closed_near, closed_far, sides_even, order}
use Rattle.bisection.specs.Theorems.Entries.{Signed, Stands}
use Rattle.bisection.proofs.Theorems.Entries.{stands}
use Rattle.bisection.proofs.Theorems.Paths.{plain_minus, plain_axis, root_passes}
use Rattle.bisection.specs.Theorems.Drawn.{Drawn, box_low, along, entry}
use Rattle.bisection.proofs.Theorems.Drawn.{drawn_root, drawn_below}
use Rattle.bisection.proofs.Theorems.CodePaths.{some_axes, few_axes, name_passes}
use Rattle.bisection.specs.Theorems.Geometry.{Moves, Reading}

-- the closed form of the vertices, with the box given by the orthant bytes
pub closed_form : (root path : List ℕ) → GoodRoot root → length path ≤ greatest_depth (length root) → Drawn (length root) (length path) (name_of root path) (cell_of root path)
unfolding name_of cell_of
closed_form root path r h = rw zero-add at (drawn_below (length root) d0 small path 0 (root_name root) _ (rw zero-add h) (root_passes root d0 small r.permutation) (drawn_root root d0 small r.permutation))
  where
    d0 : 0 < length root
    d0 = some_axes r.dimension

    small : length root < 128
    small = few_axes r.dimension

-- a root's: on the axis of its entry i the vertices up to i are at 0, those past it at the cube's side
module _ (root : List ℕ) (good : GoodRoot root) where
  root_plain : (i : ℕ) → i < length root → minus (get_or root i 0) ≡ false
  root_plain i l = plain_minus (get_or root i 0) (omega (arith, few_axes good.dimension, good.permutation.high i l))

  pub root_axis : (i : ℕ) → i < length root → get_or root i 0 ≡ axis (get_or root i 0)
  root_axis i l = sym (plain_axis (get_or root i 0) (root_plain i l))

  pub root_drawn : Drawn (length root) 0 (root_name root) (root_cell root)
  root_drawn = drawn_root root (some_axes good.dimension) (few_axes good.dimension) good.permutation

  pub root_reads : (i : ℕ) → i < length root → (j : ℕ) → j ≤ length root → along (root_cell root) (get_or root i 0) j ≡ closed 0 cube_side false i (length root) j
  unfolding box_low box_side
  root_reads i l j h = let o = at_root (length root) (some_axes good.dimension) in rw (← root_axis i l, root_plain i l, o.0, o.1, side_first) at (root_drawn.reads i l j h)

-- every midpoint at which a cell is split is whole
even_twice : (x : ℕ) → (x + x) % 2 ≡ 0
even_twice x = omega arith

pub split_even : {d D : ℕ} {m : Name} {vs : Cell} → 0 < d → D < greatest_depth d → Signed d m.entries → Drawn d D m vs
    → (a : ℕ) → 1 ≤ a → a ≤ d → (along vs a 0 + along vs a (split_place d D)) % 2 ≡ 0
split_even {d} {D} {m} {vs} d0 h g r a l u = subst (λ (b : ℕ). (along vs b 0 + along vs b k) % 2 ≡ 0) t.is (go (dec_le k t.place))
  where
    k : ℕ
    k = split_place d D

    t : Stands m.entries a d
    t = stands g a l u

    e : ℕ
    e = entry m t.place

    s : ℕ
    s = box_side d D

    ev : s % 2 ≡ 0
    ev = unfold box_side in side_even (box_depth d D) (box_under d D d0 h)

    start : along vs (axis e) 0 ≡ near (box_low (axis e) 0 m.orthants) s (minus e)
    start = r.reads t.place t.below 0 (omega arith) ∙ closed_near (box_low (axis e) 0 m.orthants) s (minus e) t.place k 0 (omega arith)

    end : along vs (axis e) k ≡ closed (box_low (axis e) 0 m.orthants) s (minus e) t.place k k
    end = r.reads t.place t.below k (split_range d D d0).1

    go : Dec (k ≤ t.place) → (along vs (axis e) 0 + along vs (axis e) k) % 2 ≡ 0
    go (yes q) = rw (start, end, closed_near (box_low (axis e) 0 m.orthants) s (minus e) t.place k k q) (even_twice (near (box_low (axis e) 0 m.orthants) s (minus e)))
    go (no q) = rw (start, end, closed_far (box_low (axis e) 0 m.orthants) s (minus e) t.place k k (omega arith) (omega arith)) (sides_even (box_low (axis e) 0 m.orthants) s (minus e) ev)

pub whole_midpoint : (root path : List ℕ) → GoodRoot root → length path < greatest_depth (length root) → (a : ℕ) → 1 ≤ a → a ≤ length root
    → (coordinate (vertex (cell_of root path) 0) a + coordinate (vertex (cell_of root path) (split_place (length root) (length path))) a) % 2 ≡ 0
whole_midpoint root path r h = split_even (some_axes r.dimension) h (name_passes r path).signed (closed_form root path r (omega arith))

near_far : (n : Bool) (lo s : ℕ) → Moves n s (near lo s n) (far lo s n)
near_far true lo s = refl
near_far false lo s = refl

pub entry_reading : {d D : ℕ} {m : Name} {vs : Cell} → 0 < d → Signed d m.entries → Drawn d D m vs → (i : ℕ) → i < split_place d D → Reading d D m vs i
entry_reading {d} {D} {m} {vs} d0 g r i h = record { on = rw (here, next) (near_far (minus (entry m i)) (low i) (box_side d D)); off = off }
  where
    k : ℕ
    k = split_place d D

    kd : k ≤ d
    kd = (split_range d D d0).1

    low : ℕ → ℕ
    low i = box_low (axis (entry m i)) 0 m.orthants

    is : (t : ℕ) → t < d → (j : ℕ) → j ≤ d → along vs (axis (entry m t)) j ≡ closed (low t) (box_side d D) (minus (entry m t)) t k j
    is = r.reads

    here : along vs (axis (entry m i)) i ≡ near (low i) (box_side d D) (minus (entry m i))
    here = is i (omega (arith, kd)) i (omega (arith, kd)) ∙ closed_near (low i) (box_side d D) (minus (entry m i)) i k i (omega arith)

    next : along vs (axis (entry m i)) (suc i) ≡ far (low i) (box_side d D) (minus (entry m i))
    next = is i (omega (arith, kd)) (suc i) (omega (arith, kd)) ∙ closed_far (low i) (box_side d D) (minus (entry m i)) i k (suc i) (omega arith) h

    off : (a : ℕ) → 1 ≤ a → a ≤ d → a ≢ axis (entry m i) → along vs a (suc i) ≡ along vs a i
    off a l u n = subst (λ (b : ℕ). along vs b (suc i) ≡ along vs b i) t.is (rw (is t.place t.below (suc i) (omega (arith, kd)), is t.place t.below i (omega (arith, kd))) (go (order t.place i)))
      where
        t : Stands m.entries a d
        t = stands g a l u

        p : ℕ
        p = t.place

        go : Order p i → closed (low p) (box_side d D) (minus (entry m p)) p k (suc i) ≡ closed (low p) (box_side d D) (minus (entry m p)) p k i
        go (under q) = rw (closed_far (low p) (box_side d D) (minus (entry m p)) p k (suc i) (omega arith) h, closed_far (low p) (box_side d D) (minus (entry m p)) p k i q (omega arith)) refl
        go (same q) = absurd (n (sym t.is ∙ ap (λ (j : ℕ). axis (entry m j)) q))
        go (over q) = rw (closed_near (low p) (box_side d D) (minus (entry m p)) p k (suc i) q, closed_near (low p) (box_side d D) (minus (entry m p)) p k i (omega arith)) refl

pub geometric_reading : (root path : List ℕ) → GoodRoot root → length path ≤ greatest_depth (length root) → (i : ℕ) → i < split_place (length root) (length path)
    → Reading (length root) (length path) (name_of root path) (cell_of root path) i
geometric_reading root path r h = entry_reading (some_axes r.dimension) (name_passes r path).signed (closed_form root path r h)
