-- The middle at which a cell is split is no vertex of a cell of its depth or less. At its depth the halves of the box's side tell: of the
-- middle's coordinates k are odd numbers of halves, of a vertex's none or more than k. And every vertex of a cell is one of a child's, so
-- of a cell of every greater depth.
use Rattle.std.specs.Prelude.{◌≡◌, ◌≢◌, ℕ, zero, suc, ◌+◌, ◌-◌, ◌*◌, ◌%◌, ◌≤◌, ◌<◌, get_or}
use Rattle.std.proofs.Common.{sym, ap, ◌∙◌, arith}
use mathlib.Core.List.Memᴰ
use mathlib.Core.List.{List, [], Memᴰ}
use Rattle.std.proofs.Math.Nat.{eq_of_mul-eq-mul_left}
use Rattle.std.proofs.Math.Decide.{dec_lt, dec_le, ℕ_discrete}
use Rattle.dimension.specs.Sizes.{greatest_depth, split_place, box_side}
use Rattle.bisection.specs.Cells.{Point, Cell, vertex, child}
use Rattle.bisection.specs.Codes.{dimension_of, depth_of, parts_of}
use Rattle.bisection.specs.Facets.{IsCell}
use Rattle.bisection.specs.Theorems.Lists.{middle}
use Rattle.bisection.specs.Theorems.Drawn.{Sized}
use Rattle.bisection.proofs.Theorems.Drawn.{middle_at}
use Rattle.bisection.proofs.Theorems.Geometry.{split_even}
use Rattle.bisection.specs.Theorems.Crossing.Sums.{sum, up_to}
use Rattle.bisection.proofs.Theorems.Crossing.Sums.{sum_same, count}
use Rattle.bisection.specs.Theorems.Crossing.Rows.{row, Sides}
use Rattle.bisection.proofs.Theorems.Crossing.Rows.{row_before, row_in, sides_odd}
use Rattle.bisection.specs.Theorems.Crossing.Frames.{Frame, vert, GoodFrame, Meets}
use Rattle.bisection.proofs.Theorems.Crossing.Frames.{half_high, half_low_is, meet_high, meet_low}
use Rattle.bisection.specs.Theorems.Crossing.Skips.{skip, Skipped}
use Rattle.bisection.proofs.Theorems.Crossing.Skips.{skip_in, skipped}
use Rattle.bisection.proofs.Theorems.Crossing.Points.{Found, mem_place, place_mem, same_meets}
use Rattle.bisection.specs.Theorems.Crossing.Named.{frame}
use Rattle.bisection.specs.Theorems.Crossing.Coded.{Coded}
use Rattle.bisection.proofs.Theorems.Crossing.Coded.{coded, coded_at, some, range, side, good_of, scaled_of}
use Rattle.bisection.specs.Theorems.Splitting.Children.{lacks}
use Rattle.bisection.proofs.Theorems.Splitting.Children.{child_kept, child_size, lacks_in}
use Rattle.bisection.proofs.Theorems.Splitting.Agreement.{child_dimension, child_depth, child_is_cell}

-- no two vertices of a cell are one point
pub vertices_apart : {code : List ℕ} {vs : Cell} → IsCell code vs → (t u : ℕ) → t ≤ dimension_of code → u ≤ dimension_of code → vertex vs t ≡ vertex vs u → t ≡ u
vertices_apart {code} c t u tl ul e = go (dec_le t k)
  where
    k : ℕ
    k = split_place (dimension_of code) (depth_of code)

    g : GoodFrame (dimension_of code) k (frame (parts_of code))
    g = good_of (coded c)

    m : Meets (dimension_of code) k (frame (parts_of code)) t (frame (parts_of code)) u
    m = same_meets (side (coded c)) (scaled_of (coded c)) (scaled_of (coded c)) t u tl ul e

    go : Dec (t ≤ k) → t ≡ u
    go (yes h) = omega (arith, (meet_low g g (range (coded c)).1 t u ul m h).1)
    go (no h) = sym (meet_high g g (range (coded c)).1 t u ul m (omega arith) tl)

-- one axis of the middle z of vertices 0 and k: an odd number of halves where the axis stands at a place up to k
half_middle : {x y : ℕ} → Sides x y → (k p z : ℕ) → 1 ≤ p → row k p x y 0 + row k p x y k ≡ 2 * z → z % 2 ≡ up_to k p
half_middle {x} {y} s k p z p1 e = go (dec_lt k p)
  where
    go : Dec (k < p) → z % 2 ≡ up_to k p
    go (yes h) = let q : z ≡ 2 * x = omega (arith, row_before k p x y 0 p1, row_before k p x y k h) in rw q (omega arith)
    go (no h) = let q : z ≡ x + y = omega (arith, row_before k p x y 0 p1, row_in k p x y k (omega arith) (omega arith)) in rw q (omega (arith, sides_odd s))

module _ {d D : ℕ} {code code' : List ℕ} {vs ws : Cell} (c : Coded d D code vs) (c' : Coded d D code' ws) (deep : D < greatest_depth d) where
  abbrev k : ℕ
  k = split_place d D

  abbrev f : Frame
  f = frame (parts_of code)

  abbrev f' : Frame
  f' = frame (parts_of code')

  module _ (j : ℕ) (l : j ≤ d) (e : middle k vs ≡ vertex ws j) where
    -- twice the middle's halves are those of the two ends
    twice : (a : ℕ) → a < d → vert k f 0 a + vert k f k a ≡ 2 * vert k f' j a
    twice a la = eq_of_mul-eq-mul_left (box_side d D) (side c) (vert k f 0 a + vert k f k a) (2 * vert k f' j a)
        (omega (arith, (scaled_of c).reads 0 a (omega arith) la, (scaled_of c).reads k a (range c).1 la, (scaled_of c').reads j a l la, half, ap (λ (v : Point). get_or v a 0) e))
      where
        less : suc a - 1 ≡ a
        less = omega arith

        half : get_or (vertex vs 0) a 0 + get_or (vertex vs k) a 0 ≡ 2 * get_or (middle k vs) a 0
        half = omega (arith, rw less at (middle_at d k vs c.drawn.sized (range c).1 (suc a)), rw less at (split_even (some c) deep c.passes.signed c.drawn (suc a) (omega arith) la))

    odd : sum (λ a. vert k f' j a % 2) d ≡ k
    odd = sum_same (λ a. vert k f' j a % 2) (λ a. up_to k (f.at a)) d
        (λ a la. half_middle (g.sides a la) k (f.at a) (vert k f' j a) (g.perm.first a la) (twice a la)) ∙ count g.perm k (range c).1
      where
        g : GoodFrame d k f
        g = good_of c

    no_vertex : ⊥
    no_vertex = go (dec_lt k j)
      where
        go : Dec (k < j) → ⊥
        go (yes h) = omega (arith, odd, half_high (good_of c') j h l)
        go (no h) = omega (arith, odd, (range c).0, half_low_is (good_of c') j (omega arith))

  same_depth : ¬ Memᴰ (middle k vs) ws
  same_depth m = let q : Found [] (middle k vs) ws = mem_place [] m in no_vertex q.place (omega (arith, q.below, c'.drawn.sized.size)) q.is

-- a child has every vertex but the end that it lacks
child_has : {d : ℕ} {vs : Cell} → Sized d vs → (k : ℕ) → k ≤ d → (b t : ℕ) → t ≤ d → t ≢ lacks b k → Memᴰ (vertex vs t) (child b k vs)
child_has {d} {vs} z k kd b t l n = Memᴰ.cast (sym (child_kept z k kd b s.from ∙ ap (vertex vs) s.is))
    (place_mem [] (child b k vs) (skip k s.from) (omega (arith, child_size z k kd b, skip_in k s.from s.below)))
  where
    s : Skipped d (lacks b k) t
    s = skipped (lacks b k) t (lacks_in z k kd b) l n

module _ {code : List ℕ} {vs : Cell} (c : IsCell code vs) (deep : depth_of code < greatest_depth (dimension_of code)) where
  -- n depths above
  above : (n : ℕ) {code' : List ℕ} {ws : Cell} → IsCell code' ws → dimension_of code' ≡ dimension_of code → n + depth_of code' ≡ depth_of code
      → ¬ Memᴰ (middle (split_place (dimension_of code) (depth_of code)) vs) ws
  above zero c' e q m = same_depth (coded c) (coded_at (sym e) (omega arith) c') deep m
  above (suc n) {code'} {ws} c' e q m = go (λ b small. above n (child_is_cell c' b small deep') (child_dimension c' b ∙ e) (omega (arith, child_depth c' b))) (ℕ_discrete p.place k)
    where
      k : ℕ
      k = split_place (dimension_of code') (depth_of code')

      v : Point
      v = middle (split_place (dimension_of code) (depth_of code)) vs

      deep' : depth_of code' < greatest_depth (dimension_of code')
      deep' = rw e (omega arith)

      p : Found [] v ws
      p = mem_place [] m

      has : (b : ℕ) → p.place ≢ lacks b k → Memᴰ v (child b k ws)
      has b n = Memᴰ.cast p.is (child_has (coded c').drawn.sized k (range (coded c')).1 b p.place (omega (arith, p.below, (coded c').drawn.sized.size)) n)

      go : ((b : ℕ) → b ≤ 1 → ¬ Memᴰ v (child b k ws)) → Dec (p.place ≡ k) → ⊥
      go ih (yes r) = ih 1 (omega arith) (has 1 (omega (arith, r, (range (coded c')).0)))
      go ih (no r) = ih 0 (omega arith) (has 0 r)

-- the middle at which a cell is split is no vertex of a cell of its depth or less
pub middle_new : {code code' : List ℕ} {vs ws : Cell} → IsCell code vs → IsCell code' ws → dimension_of code' ≡ dimension_of code
    → depth_of code < greatest_depth (dimension_of code) → depth_of code' ≤ depth_of code
    → ¬ Memᴰ (middle (split_place (dimension_of code) (depth_of code)) vs) ws
middle_new {code} {code'} c c' e deep l = above c deep (depth_of code - depth_of code') c' e (omega arith)
