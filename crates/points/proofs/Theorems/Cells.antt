-- Points in the cells of the bisection, for every dimension, by steps down from a root: a point of a cell lies in a half of it and in
-- every cell above it; its weights tell in which half; of any sum it has one list of weights at most, and of the box's side as their
-- sum exactly one.
use Rattle.std.specs.Prelude.{◌≡◌, List, [], ◌∷◌, ◌++◌, ◌⊎◌, ℕ, zero, suc, ◌+◌, ◌*◌, ◌≤◌, ◌<◌, length, get_or}
use Rattle.std.proofs.Common.{sym, ◌∙◌, subst, append_assoc, append-nil, inl, inr, arith, mul-le-mul_left, length-append, ext_get_or}
use Rattle.std.proofs.Math.Nat.{le_of_mul-le-mul_left, eq_of_mul-eq-mul_left}
use Rattle.std.proofs.Math.Decide.{dec_le}
use Rattle.dimension.specs.Sizes.{cube_side, greatest_depth}
use Rattle.dimension.specs.Laws.{split_range}
use Rattle.bisection.specs.Cells.{Point, coordinate, cell_of}
use Rattle.bisection.specs.Roots.{GoodRoot}
use Rattle.bisection.specs.Theorems.Drawn.{Sized, along}
use Rattle.bisection.proofs.Theorems.CodePaths.{some_axes, name_passes}
use Rattle.bisection.proofs.Theorems.CellChildren.{cell_of_child}
use Rattle.bisection.proofs.Theorems.Geometry.{closed_form, whole_midpoint}
use Rattle.bisection.specs.Weights.{sum_to, Weighs}
use Rattle.bisection.specs.Theorems.Weights.Axes.{mean, list_of}
use Rattle.bisection.proofs.Theorems.Weights.Axes.{weighs_axes, axes_list, axes_inside}
use Rattle.bisection.proofs.Theorems.Weights.Independent.{axes_one, axes_scaled}
use Rattle.points.specs.Theorems.Halving.{up, Fits, down, Splits}
use Rattle.points.proofs.Theorems.Halving.{up_fits, half_mean, half_sum, axes_up, axes_down}
use Rattle.points.specs.Theorems.RootCells.{Falls}
use Rattle.points.proofs.Theorems.RootCells.{dec_falls, inside_falls, falls_inside}
use Rattle.points.specs.Theorems.Cells.{CellAxes, In, split_of}

pub one_longer : (path : List ℕ) (b : ℕ) → length (path ++ b ∷ []) ≡ suc (length path)
one_longer path b = simp length-append (omega arith)

-- multiples of the weights tell the same half
fits_scaled : (b k c C : ℕ) (w v : ℕ → ℕ) → 0 < c → ((j : ℕ) → j ≤ k → c * w j ≡ C * v j) → Fits b k v → Fits b k w
fits_scaled zero k c C w v l e f = le_of_mul-le-mul_left {m = w k} {n = w 0} {k = c} (omega (arith, e 0 (omega arith), e k (omega arith), mul-le-mul_left C f)) l
fits_scaled (suc b) k c C w v l e f = le_of_mul-le-mul_left {m = w 0} {n = w k} {k = c} (omega (arith, e 0 (omega arith), e k (omega arith), mul-le-mul_left C f)) l

dec_fits : (b k : ℕ) (w : ℕ → ℕ) → Dec (Fits b k w)
dec_fits zero k w = dec_le (w k) (w 0)
dec_fits (suc b) k w = dec_le (w 0) (w k)

module _ (root : List ℕ) (good : GoodRoot root) where
  abbrev n : ℕ
  n = suc (length root)

  abbrev M : ℕ
  M = greatest_depth (length root)

  -- the mean of the cell's vertices on an axis
  abbrev mean_of : List ℕ → (ℕ → ℕ) → ℕ → ℕ
  mean_of path w a = mean (length root) w (along (cell_of root path) a)

  sized : (path : List ℕ) → length path ≤ M → Sized (length root) (cell_of root path)
  sized path deep = (closed_form root path good deep).sized

  splits : (path : List ℕ) → length path < M → Splits (length root) (split_of root path) (cell_of root path)
  splits path deep = let r = split_range (length root) (length path) (some_axes good.dimension) in
      record { sized = sized path (omega arith); first = r.0; last = r.1; whole = whole_midpoint root path good deep }

  -- what holds of the root and goes on with every step holds of every cell
  pub by_steps : (P : List ℕ → Type 0) → P [] → ((path : List ℕ) (b : ℕ) → length path < M → P path → P (path ++ b ∷ [])) → (path : List ℕ) → length path ≤ M → P path
  by_steps P start step path deep = go [] path (omega arith) start
    where
      go : (front rest : List ℕ) → length front + length rest ≤ M → P front → P (front ++ rest)
      go front [] l h = rw (append-nil front) h
      go front (b ∷ rest) l h = subst P (append_assoc front (b ∷ []) rest) (go (front ++ b ∷ []) rest (omega (arith, one_longer front b)) (step front b (omega arith) h))

  -- a step: weights up and down
  module _ (path : List ℕ) (b : ℕ) (deep : length path < M) where
    half_sized : Sized (length root) (cell_of root (path ++ b ∷ []))
    half_sized = sized (path ++ b ∷ []) (omega (arith, one_longer path b))

    step_sum : (u : ℕ → ℕ) → sum_to n (up b (split_of root path) u) ≡ 2 * sum_to n u
    step_sum = half_sum (splits path deep) b

    step_mean : (u : ℕ → ℕ) (a : ℕ) → 1 ≤ a → a ≤ length root → mean_of path (up b (split_of root path) u) a ≡ 2 * mean_of (path ++ b ∷ []) u a
    step_mean = rw (cell_of_child root path b) (half_mean (splits path deep) b)

    module _ {p : Point} {W : ℕ} where
      pub step_up : {u : ℕ → ℕ} → CellAxes root p (path ++ b ∷ []) W u → CellAxes root p path (2 * W) (up b (split_of root path) u)
      step_up = rw (cell_of_child root path b) (axes_up (splits path deep) b)

      pub step_down : {w : ℕ → ℕ} → Fits b (split_of root path) w → CellAxes root p path W w → CellAxes root p (path ++ b ∷ []) W (down b (split_of root path) w)
      step_down = rw (cell_of_child root path b) (axes_down (splits path deep) b)

  module _ {p : Point} (dims : length p ≡ length root) where
    axes_of : (path : List ℕ) → length path ≤ M → {W : ℕ} {ws : List ℕ} → Weighs (cell_of root path) p W ws → CellAxes root p path W (λ j. get_or ws j 0)
    axes_of path deep h = weighs_axes (sized path deep) dims h

    -- of two sums, the weights are in proportion
    scaled : (path : List ℕ) → length path ≤ M → {W U : ℕ} {w u : ℕ → ℕ} → CellAxes root p path W w → CellAxes root p path U u → (j : ℕ) → j ≤ length root → U * w j ≡ W * u j
    scaled path deep = axes_scaled (some_axes good.dimension) deep (name_passes good path).signed (closed_form root path good deep)

    pub weights_scaled : (path : List ℕ) → length path ≤ M → (c : ℕ) {W : ℕ} → 0 < W → {ws us : List ℕ} → Weighs (cell_of root path) p (c * W) ws → Weighs (cell_of root path) p W us
        → (j : ℕ) → j ≤ length root → get_or ws j 0 ≡ c * get_or us j 0
    weights_scaled path deep c {W} l {ws} {us} h g j m = eq_of_mul-eq-mul_left W l (get_or ws j 0) (c * get_or us j 0) (scaled path deep (axes_of path deep h) (axes_of path deep g) j m ∙ omega arith)

    -- of one sum, there is one list of weights at most
    pub weights_one : (path : List ℕ) → length path ≤ M → {W : ℕ} {ws us : List ℕ} → Weighs (cell_of root path) p W ws → Weighs (cell_of root path) p W us → ws ≡ us
    weights_one path deep {W} {ws} {us} h g = ext_get_or 0 ws us (h.count ∙ sym g.count) (λ j l. axes_one (some_axes good.dimension) deep (name_passes good path).signed
        (closed_form root path good deep) (axes_of path deep h) (axes_of path deep g) j (omega (arith, h.count, (sized path deep).size)))

    module _ (path : List ℕ) (b : ℕ) (deep : length path < M) where
      half_axes : (i : In root p (path ++ b ∷ [])) → CellAxes root p path (2 * i.W) (up b (split_of root path) (λ j. get_or i.ws j 0))
      half_axes i = step_up path b deep (weighs_axes (half_sized path b deep) dims i.weighs)

      -- a point of a half lies in the cell, and its weights there tell the half
      pub in_parent : In root p (path ++ b ∷ []) → In root p path
      in_parent i = axes_inside (sized path (omega arith)) dims {W = 2 * i.W} (omega (arith, i.some)) (half_axes i)

      pub half_fits : {W : ℕ} {w : ℕ → ℕ} → CellAxes root p path W w → In root p (path ++ b ∷ []) → Fits b (split_of root path) w
      half_fits {W} {w} h i = fits_scaled b (split_of root path) (2 * i.W) W w (up b (split_of root path) u) (omega (arith, i.some))
          (λ j l. scaled path (omega arith) h (half_axes i) j (omega (arith, (splits path deep).last))) (up_fits b (split_of root path) (splits path deep).first u)
        where
          u : ℕ → ℕ
          u j = get_or i.ws j 0

      pub in_half : {W : ℕ} {w : ℕ → ℕ} → 0 < W → CellAxes root p path W w → Fits b (split_of root path) w → In root p (path ++ b ∷ [])
      in_half l h f = axes_inside (half_sized path b deep) dims l (step_down path b deep f h)

      -- the weights in the half, of the same sum
      pub weighs_half : {W : ℕ} {ws : List ℕ} → Weighs (cell_of root path) p W ws → Fits b (split_of root path) (λ j. get_or ws j 0)
          → Weighs (cell_of root (path ++ b ∷ [])) p W (list_of n (down b (split_of root path) (λ j. get_or ws j 0)))
      weighs_half h f = axes_list (half_sized path b deep) dims (step_down path b deep f (axes_of path (omega arith) h))

    -- a point of a cell lies in every cell above it
    pub inside_above : (path more : List ℕ) → length path + length more ≤ M → In root p (path ++ more) → In root p path
    inside_above path [] deep i = rw (append-nil path) at i
    inside_above path (b ∷ more) deep i = in_parent path b (omega arith)
        (inside_above (path ++ b ∷ []) more (omega (arith, one_longer path b)) (subst (In root p) (sym (append_assoc path (b ∷ []) more)) i))

    -- a point of a cell that is split lies in child 0 or in child 1
    pub halves : (path : List ℕ) → length path < M → In root p path → In root p (path ++ 0 ∷ []) ⊎ In root p (path ++ 1 ∷ [])
    halves path deep i = go (dec_le (get_or i.ws (split_of root path) 0) (get_or i.ws 0 0))
      where
        h : CellAxes root p path i.W (λ j. get_or i.ws j 0)
        h = axes_of path (omega arith) i.weighs

        go : Dec (get_or i.ws (split_of root path) 0 ≤ get_or i.ws 0 0) → In root p (path ++ 0 ∷ []) ⊎ In root p (path ++ 1 ∷ [])
        go (yes l) = inl (in_half path 0 deep i.some h l)
        go (no l) = inr (in_half path 1 deep i.some h (omega arith))

    pub dec_inside : (path : List ℕ) → length path ≤ M → Dec (In root p path)
    dec_inside = by_steps (λ path. Dec (In root p path)) (start (dec_falls (coordinate p) cube_side root)) step
      where
        start : Dec (Falls (coordinate p) cube_side root) → Dec (In root p [])
        start (yes f) = yes (falls_inside root good p dims f)
        start (no f) = no (λ i. f (inside_falls root good p dims i))

        step : (path : List ℕ) (b : ℕ) → length path < M → Dec (In root p path) → Dec (In root p (path ++ b ∷ []))
        step path b deep (no n) = no (λ i. n (in_parent path b deep i))
        step path b deep (yes i) = go (dec_fits b (split_of root path) (λ j. get_or i.ws j 0))
          where
            h : CellAxes root p path i.W (λ j. get_or i.ws j 0)
            h = axes_of path (omega arith) i.weighs

            go : Dec (Fits b (split_of root path) (λ j. get_or i.ws j 0)) → Dec (In root p (path ++ b ∷ []))
            go (yes f) = yes (in_half path b deep i.some h f)
            go (no f) = no (λ q. f (half_fits path b deep h q))
