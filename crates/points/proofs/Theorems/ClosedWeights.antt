-- A point lies in a closed cell exactly when the closed form's weights are natural numbers, and then those are its weights. With B n the
-- sum of the first n weights, of sum s in all, and h the larger of i and k, the mean along entry i says 2 t i + 2 B (i + 1) = s + B (h + 1):
-- that holds exactly for B (i + 1) = s - t i - t h.
use Rattle.std.specs.Prelude.{◌≡◌, Bool, true, false, List, leb, length}
use Rattle.std.proofs.Math.Path.{refl, ap, subst}
use Rattle.std.proofs.Math.Bool.{cond}
use Prim.Native.Nat.{ℕ, zero, suc, ◌+◌, ◌-◌, ◌*◌, ◌%◌, ◌≤◌, ◌<◌}
use native.Mathlib.Omega.{arith}
use Rattle.std.proofs.Math.Nat.{le_of_mul-le-mul_left, eq_of_mul-eq-mul_left}
use Rattle.std.proofs.Math.Decide.{dec_le, dec_lt}
use Rattle.std.proofs.Math.ListN.{get_or}
use Rattle.std.proofs.Common.{le-leb, lt-ltb, le-ltb}
use Rattle.std.proofs.lemmas.Bool.{lt-leb}
use Rattle.dimension.specs.Sizes.{greatest_depth, split_place, box_side}
use Rattle.dimension.specs.Laws.{split_range, side_of}
use Rattle.bisection.specs.Cells.{Point, coordinate, cell_of}
use Rattle.bisection.specs.Roots.{GoodRoot}
use Rattle.bisection.specs.Codes.{axis, minus, name_of}
use Rattle.bisection.specs.Theorems.Entries.{Signed, Stands}
use Rattle.bisection.proofs.Theorems.Entries.{stands}
use Rattle.bisection.specs.Theorems.Drawn.{Drawn, along}
use Rattle.bisection.proofs.Theorems.CodePaths.{some_axes, name_passes}
use Rattle.bisection.specs.Theorems.Geometry.{Moves}
use Rattle.bisection.proofs.Theorems.Geometry.{closed_form}
use Rattle.bisection.specs.Weights.{sum_to, Weighs, Inside}
use Rattle.bisection.proofs.Theorems.Weights.Sums.{sum_rises}
use Rattle.bisection.specs.Theorems.Weights.Axes.{mean, Axes}
use Rattle.bisection.proofs.Theorems.Weights.Axes.{axes_list, weighs_axes}
use Rattle.bisection.specs.Theorems.Weights.Offsets.{top}
use Rattle.bisection.proofs.Theorems.Weights.Offsets.{offset, offset_mean, mean_along}
use Rattle.points.specs.ClosedForm.{gap, entry_of, start_at, point_at, distance, weight_at, closed_weights, Natural}
use Rattle.points.proofs.Theorems.Cells.{weights_one}
use Rattle.points.proofs.Theorems.BoxWeights.{box_weights}

-- from a mean to the point, and back
gap_away : (m : Bool) (start s o q : ℕ) → 0 < s → Moves m o (start * s) (s * q) → Moves m (gap m start q) start q × (o ≡ s * gap m start q)
gap_away false start s o q l h = let g : start ≤ q = le_of_mul-le-mul_left {m = start} {n = q} {k = s} (omega arith) l in let e : q ≡ start + (q - start) = omega arith in
    (e, omega (arith, ap (λ (z : ℕ). s * z) e))
gap_away true start s o q l h = let g : q ≤ start = le_of_mul-le-mul_left {m = q} {n = start} {k = s} (omega arith) l in let e : start ≡ q + (start - q) = omega arith in
    (e, omega (arith, ap (λ (z : ℕ). s * z) e))

away_point : (m : Bool) (start s t x q : ℕ) → Moves m (s * t) (start * s) x → Moves m t start q → x ≡ s * q
away_point false start s t x q h e = omega (arith, ap (λ (z : ℕ). s * z) e)
away_point true start s t x q h e = omega (arith, ap (λ (z : ℕ). s * z) e)

module _ (root path : List ℕ) (good : GoodRoot root) (deep : length path ≤ greatest_depth (length root)) (p : Point) (dims : length p ≡ length root) where
  d : ℕ
  d = length root

  k : ℕ
  k = split_place (length root) (length path)

  s : ℕ
  s = box_side (length root) (length path)

  t : ℕ → ℕ
  t = distance root path p

  d0 : 0 < length root
  d0 = some_axes good.dimension

  kd : k ≤ d
  unfolding k d
  kd = (split_range (length root) (length path) d0).1

  s0 : 0 < s
  unfolding s
  s0 = (side_of (length root) (length path) d0 deep).some

  even : k < d → s % 2 ≡ 0
  unfolding k d s
  even = (side_of (length root) (length path) d0 deep).even

  drawn : Drawn (length root) (length path) (name_of root path) (cell_of root path)
  drawn = closed_form root path good deep

  signed : Signed (length root) (name_of root path).entries
  signed = (name_passes good path).signed

  -- of entry i: its sign, vertex 0 and the point on its axis, and all vertices there
  abbrev sign : ℕ → Bool
  sign i = minus (entry_of root path i)

  abbrev start : ℕ → ℕ
  start i = start_at root path i

  abbrev q : ℕ → ℕ
  q i = point_at root path p i

  x : ℕ → ℕ → ℕ
  x i j = along (cell_of root path) (axis (entry_of root path i)) j

  means_away : (w : ℕ → ℕ) → sum_to (suc d) w ≡ s → (i : ℕ) → i < d → Moves (sign i) (mean d w (offset s i k)) (start i * s) (mean d w (x i))
  unfolding d k s x
  means_away w e i l = rw e at (mean_along d0 deep drawn i l w)

  t_is : (i : ℕ) → i < d → t i ≡ gap (sign i) (start i) (q i)
  unfolding d t distance
  t_is i l = rw (lt-ltb i (length root) l) refl

  t_end : t d ≡ 0
  unfolding d t distance
  t_end = rw (le-ltb (length root) (length root) (omega arith)) refl

  -- weights of sum s tell the distances
  module _ (w : ℕ → ℕ) (h : Axes d (along (cell_of root path)) p s w) where
    along_entry : (i : ℕ) → i < d → Moves (sign i) (t i) (start i) (q i) × (mean d w (offset s i k) ≡ s * t i)
    unfolding x d
    along_entry i l = rw (t_is i l) (gap_away (sign i) (start i) s (mean d w (offset s i k)) (q i) s0
        (rw (h.means (axis (entry_of root path i)) (signed.low i l) (signed.high i l)) at (means_away w h.sum i l)))

    front_is : (i : ℕ) → i ≤ d → 2 * t i + 2 * sum_to (suc i) w ≡ s + sum_to (suc (top i k)) w
    front_is i l = go (dec_lt i d)
      where
        go : Dec (i < d) → 2 * t i + 2 * sum_to (suc i) w ≡ s + sum_to (suc (top i k)) w
        go (yes q) = eq_of_mul-eq-mul_left s s0 _ _ (omega (arith, offset_mean s i k d w even l kd, (along_entry i q).1, ap (λ (z : ℕ). s * z) h.sum))
        go (no q) = let e : i ≡ d = omega arith in let f : top i k ≡ i = omega (arith, kd) in rw (f, e) (omega (arith, t_end, h.sum))

    at_top : (i : ℕ) → i ≤ k → sum_to (suc (top i k)) w ≡ sum_to (suc k) w
    at_top i l = ap (λ (z : ℕ). sum_to (suc z) w) (omega arith)

    at_own : (i : ℕ) → k ≤ i → sum_to (suc (top i k)) w ≡ sum_to (suc i) w
    at_own i l = ap (λ (z : ℕ). sum_to (suc z) w) (omega arith)

    t_falls : (j : ℕ) → j < d → t (suc j) ≤ t j
    t_falls j l = go (dec_lt j k)
      where
        rises : sum_to (suc j) w ≤ sum_to (suc (suc j)) w
        rises = sum_rises w (suc j) (suc (suc j)) (omega arith)

        go : Dec (j < k) → t (suc j) ≤ t j
        go (yes q) = omega (arith, front_is j (omega arith), front_is (suc j) l, at_top j (omega arith), at_top (suc j) q, rises)
        go (no q) = omega (arith, front_is j (omega arith), front_is (suc j) l, at_own j (omega arith), at_own (suc j) (omega arith), rises)

    natural : Natural root path p
    unfolding d k s t
    natural = record { ahead = λ i l. (along_entry i l).0; first = omega (arith, front_is 0 (omega arith), at_top 0 (omega arith), front_is k kd, at_own k (omega arith)); falls = t_falls }

  pub inside_natural : Inside (cell_of root path) p → Natural root path p
  unfolding d s
  inside_natural i = let b = box_weights root good dims path deep i in natural (λ j. get_or b.ws j 0) (weighs_axes drawn.sized dims b.weighs)

  -- natural distances give weights
  module _ (n : Natural root path p) where
    w : ℕ → ℕ
    w = weight_at k s t

    fronts : (i : ℕ) → i ≤ d → sum_to (suc i) w + t i + t (top i k) ≡ s
    unfolding w weight_at sum_to t d k s
    fronts zero l = omega (arith, n.first, ap (distance root path p) (zero_top k))
      where
        zero_top : (k : ℕ) → top 0 k ≡ k
        zero_top k = omega arith
    fronts (suc i) l = go (dec_le (suc i) k) (fronts i (omega arith))
      where
        go : Dec (suc i ≤ k) → sum_to (suc i) w + t i + t (top i k) ≡ s → sum_to (suc i) w + cond (leb (suc i) k) (t i - t (suc i)) (2 * (t i - t (suc i))) + t (suc i) + t (top (suc i) k) ≡ s
        go (yes q) e = rw (le-leb (suc i) k q) (omega (arith, n.falls i l, ap t (same_top i k q)))
          where
            same_top : (i k : ℕ) → suc i ≤ k → top i k ≡ top (suc i) k
            same_top i k q = omega arith
        go (no q) e = let f : k < suc i = omega arith in rw (lt-leb (suc i) k f) (omega (arith, n.falls i l, ap t (own_top i k (omega arith)), ap t (own_top (suc i) k (omega arith))))
          where
            own_top : (i k : ℕ) → k ≤ i → top i k ≡ i
            own_top i k q = omega arith

    total : sum_to (suc d) w ≡ s
    total = let e : top d k ≡ d = omega (arith, kd) in omega (arith, fronts d (omega arith), t_end, ap t e)

    offsets : (i : ℕ) → i < d → mean d w (offset s i k) ≡ s * t i
    offsets i l = let e : top (top i k) k ≡ top i k = omega arith in omega (
      arith,
      offset_mean s i k d w even (omega arith) kd,
      ap (λ (z : ℕ). s * z) total,
      ap (λ (z : ℕ). s * z) (fronts i (omega arith)),
      ap (λ (z : ℕ). s * z) (fronts (top i k) (omega (arith, kd))),
      ap (λ (z : ℕ). s * t z) e,
    )

    closed_axes : Axes d (along (cell_of root path)) p s w
    unfolding d
    closed_axes = record { sum = total; means = λ a l u. go a (stands signed a l u) }
      where
        go : (a : ℕ) → Stands (name_of root path).entries a (length root) → mean d w (along (cell_of root path) a) ≡ s * coordinate p a
        go a o = subst (λ (a : ℕ). mean d w (along (cell_of root path) a) ≡ s * coordinate p a) o.is
            (unfold x t in let i = o.place in away_point (sign i) (start i) s (t i) (mean d w (x i)) (q i) (rw (offsets i o.below) at (means_away w total i o.below)) (n.ahead i o.below))

    -- those have sum s, and are the weights
    pub natural_weighs : Weighs (cell_of root path) p (box_side (length root) (length path)) (closed_weights root path p)
    unfolding d k s t w closed_weights
    natural_weighs = axes_list drawn.sized dims closed_axes

    pub natural_inside : Inside (cell_of root path) p
    unfolding s
    natural_inside = record { W = box_side (length root) (length path); some = s0; ws = closed_weights root path p; weighs = natural_weighs }

  -- and there are no others
  pub closed_only : {us : List ℕ} → Weighs (cell_of root path) p (box_side (length root) (length path)) us → us ≡ closed_weights root path p
  unfolding s
  closed_only {us} h = weights_one root good dims path deep h (natural_weighs (inside_natural (record { W = box_side (length root) (length path); some = s0; ws = us; weighs = h })))
