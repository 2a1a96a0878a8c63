-- The weights of a point in a root's cell. On the axis of the root's entry i the vertices up to i are at 0 and those past it at the
-- cube's side, so what weighs the vertices up to i is what lacks to the point's coordinate there: a point lies in the cell exactly
-- when its coordinates fall along the root, and its weights are their falls.
use Rattle.std.specs.Prelude.{◌≡◌, false, List, [], ◌∷◌, get_or}
use Rattle.std.proofs.Math.Path.{refl}
use Rattle.std.proofs.Common.{ap, ◌∙◌, subst}
use Prim.Native.Nat.{ℕ, zero, suc, ◌+◌, ◌*◌, ◌≤◌, ◌<◌}
use native.Mathlib.Omega.{arith}
use Rattle.std.proofs.Math.Nat.{le_of_mul-le-mul_left, mul-le-mul_left, zero-add}
use Rattle.std.proofs.Math.Decide.{dec_le, dec_lt}
use Rattle.std.proofs.Math.ListN.{length}
use borrow.Author.Tests.{le-leb, lt-leb}
use Rattle.dimension.specs.Sizes.{cube_side}
use Rattle.dimension.specs.Laws.{side_first, side_pos}
use Rattle.bisection.specs.Cells.{Point, coordinate, root_cell, cell_below, cell_of}
use Rattle.bisection.specs.Roots.{GoodRoot}
use Rattle.bisection.specs.Codes.{name_below, name_of}
use Rattle.bisection.proofs.Theorems.Axis.{closed_near, closed_far}
use Rattle.bisection.specs.Theorems.Entries.{Signed, Stands}
use Rattle.bisection.proofs.Theorems.Entries.{stands}
use Rattle.bisection.specs.Theorems.Drawn.{along}
use Rattle.bisection.proofs.Theorems.CodePaths.{some_axes, name_passes}
use Rattle.bisection.proofs.Theorems.Geometry.{root_axis, root_drawn, root_reads}
use Rattle.bisection.specs.Weights.{sum_to, Inside}
use Rattle.bisection.proofs.Theorems.Weights.Sums.{sum_rises, mean_past}
use Rattle.bisection.specs.Theorems.Weights.Axes.{mean, Axes}
use Rattle.bisection.proofs.Theorems.Weights.Axes.{weighs_axes, axes_inside}
use Rattle.points.specs.Theorems.RootCells.{Falls, falls_more, falls_none, height, root_weight}

pub falls_first : {v : ℕ → ℕ} {b : ℕ} {xs : List ℕ} → Falls v b xs → 0 < length xs → v (get_or xs 0 0) ≤ b
falls_first falls_none l = absurd (omega arith)
falls_first (falls_more h f) l = h

pub falls_next : {v : ℕ → ℕ} {b : ℕ} {xs : List ℕ} → Falls v b xs → (j : ℕ) → suc j < length xs → v (get_or xs (suc j) 0) ≤ v (get_or xs j 0)
falls_next falls_none j l = absurd (omega arith)
falls_next (falls_more h f) zero l = falls_first f (omega arith)
falls_next (falls_more h f) (suc j) l = falls_next f j (omega arith)

pub falls_by : (v : ℕ → ℕ) (b : ℕ) (xs : List ℕ) → (0 < length xs → v (get_or xs 0 0) ≤ b) → ((j : ℕ) → suc j < length xs → v (get_or xs (suc j) 0) ≤ v (get_or xs j 0)) → Falls v b xs
falls_by v b [] h n = falls_none
falls_by v b (x ∷ xs) h n = falls_more {x = x} (h (omega arith)) (falls_by v (v x) xs (λ l. n 0 (omega arith)) (λ j l. n (suc j) (omega arith)))

pub dec_falls : (v : ℕ → ℕ) (b : ℕ) (xs : List ℕ) → Dec (Falls v b xs)
dec_falls v b [] = yes falls_none
dec_falls v b (x ∷ xs) = go (dec_le (v x) b) (dec_falls v (v x) xs)
  where
    go : Dec (v x ≤ b) → Dec (Falls v (v x) xs) → Dec (Falls v b (x ∷ xs))
    go (yes h) (yes f) = yes (falls_more {x = x} h f)
    go (no h) f = no (λ g. h (falls_first g (omega arith)))
    go (yes h) (no f) = no (λ g. f (rest g))
      where
        rest : Falls v b (x ∷ xs) → Falls v (v x) xs
        rest (falls_more h g) = g

pub side_some : 0 < cube_side
side_some = rw (← side_first) (side_pos 0 (omega arith))

module _ (root : List ℕ) (good : GoodRoot root) where
  d0 : 0 < length root
  d0 = some_axes good.dimension

  root_mean : (w : ℕ → ℕ) (i : ℕ) → i < length root → mean (length root) w (along (root_cell root) (get_or root i 0)) + cube_side * sum_to (suc i) w ≡ cube_side * sum_to (suc (length root)) w
  root_mean w i l = mean_past cube_side (suc (length root)) i w (along (root_cell root) (get_or root i 0)) (omega arith)
      (λ j h. root_reads root good i l j (omega arith) ∙ closed_near 0 cube_side false i (length root) j h)
      (λ j h m. root_reads root good i l j (omega arith) ∙ closed_far 0 cube_side false i (length root) j h (omega arith) ∙ zero-add cube_side)

  signed : Signed (length root) root
  unfolding name_of name_below
  signed = (name_passes good []).signed

  module _ (p : Point) where
    abbrev x : ℕ → ℕ
    x i = coordinate p (get_or root i 0)

    lack : {W : ℕ} {w : ℕ → ℕ} → Axes (length root) (along (root_cell root)) p W w → (i : ℕ) → i < length root → W * x i + cube_side * sum_to (suc i) w ≡ cube_side * W
    lack {W} {w} h i l = omega (arith, root_mean w i l, h.means (get_or root i 0) (good.permutation.low i l) (good.permutation.high i l), ap (λ (z : ℕ). cube_side * z) h.sum)

    axes_by : {W : ℕ} {w : ℕ → ℕ} → sum_to (suc (length root)) w ≡ W → ((i : ℕ) → i < length root → W * x i + cube_side * sum_to (suc i) w ≡ cube_side * W)
        → Axes (length root) (along (root_cell root)) p W w
    axes_by {W} {w} s h = record { sum = s; means = λ a l u. go a (stands signed a l u) }
      where
        go : (a : ℕ) → Stands root a (length root) → mean (length root) w (along (root_cell root) a) ≡ W * coordinate p a
        go a t = subst (λ (a : ℕ). mean (length root) w (along (root_cell root) a) ≡ W * coordinate p a) (root_axis root good t.place t.below ∙ t.is)
            (omega (arith, root_mean w t.place t.below, h t.place t.below, ap (λ (z : ℕ). cube_side * z) s))

    -- a point of the cell has coordinates that fall along the root
    axes_falls : {W : ℕ} {w : ℕ → ℕ} → 0 < W → Axes (length root) (along (root_cell root)) p W w → Falls (coordinate p) cube_side root
    unfolding sum_to
    axes_falls {W} {w} pos h = falls_by (coordinate p) cube_side root
        (λ l. le_of_mul-le-mul_left {m = x 0} {n = cube_side} {k = W} (omega (arith, lack h 0 d0)) pos)
        (λ j l. le_of_mul-le-mul_left {m = x (suc j)} {n = x j} {k = W} (omega (arith, lack h j (omega arith), lack h (suc j) l, mul-le-mul_left cube_side (rises j))) pos)
      where
        rises : (j : ℕ) → sum_to (suc j) w ≤ sum_to (suc (suc j)) w
        rises j = sum_rises w (suc j) (suc (suc j)) (omega arith)

    pub height_some : (j : ℕ) → j < length root → height p root (suc j) ≡ coordinate p (get_or root j 0)
    unfolding height
    height_some j l = simp le-leb

    pub height_past : (j : ℕ) → length root ≤ j → height p root (suc j) ≡ 0
    unfolding height
    height_past j l = let h : length root < suc j = omega arith in simp lt-leb

    module _ (f : Falls (coordinate p) cube_side root) where
      pub height_falls : (j : ℕ) → height p root (suc j) ≤ height p root j
      height_falls j = go j (dec_lt j (length root))
        where
          top : height p root 0 ≡ cube_side
          top = unfold height in refl

          go : (j : ℕ) → Dec (j < length root) → height p root (suc j) ≤ height p root j
          go j (no l) = omega (arith, height_past j (omega arith))
          go zero (yes l) = omega (arith, height_some 0 d0, falls_first f d0, top)
          go (suc j) (yes l) = omega (arith, height_some j (omega arith), height_some (suc j) l, falls_next f j l)

      sums : (n : ℕ) → sum_to n (root_weight p root) + height p root n ≡ cube_side
      unfolding sum_to
      sums zero = unfold height in zero-add cube_side
      sums (suc n) = omega (arith, sums n, height_falls n)

      root_axes : Axes (length root) (along (root_cell root)) p cube_side (root_weight p root)
      root_axes = axes_by (omega (arith, sums (suc (length root)), height_past (length root) (omega arith)))
          (λ i l. omega (arith, ap (λ (z : ℕ). cube_side * z) (sums (suc i)), ap (λ (z : ℕ). cube_side * z) (height_some i l)))

    -- exactly then it lies in the closed cell, and the falls are its weights
    module _ (dims : length p ≡ length root) where
      pub inside_falls : Inside (cell_of root []) p → Falls (coordinate p) cube_side root
      unfolding cell_of cell_below
      inside_falls h = axes_falls h.some (weighs_axes (root_drawn root good).sized dims h.weighs)

      pub falls_axes : Falls (coordinate p) cube_side root → Axes (length root) (along (cell_of root [])) p cube_side (root_weight p root)
      unfolding cell_of cell_below
      falls_axes f = root_axes f

      pub falls_inside : Falls (coordinate p) cube_side root → Inside (cell_of root []) p
      unfolding cell_of cell_below
      falls_inside f = axes_inside (root_drawn root good).sized dims side_some (root_axes f)
