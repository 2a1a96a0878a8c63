-- A cell's vertices along one entry, weighed. Along entry i, vertex 0 and the vertices up to i are at the box's near side, those up to
-- k at its far side, those past both at its middle. So with B n the sum of the first n weights and h the larger of i and k, twice the
-- mean of the ways from the near side and 2 s B (i + 1) make s B (d + 1) + s B (h + 1).
use Rattle.std.specs.Prelude.{◌≡◌, Bool, true, false, cond, not, ℕ, zero, suc, ◌+◌, ◌*◌, ◌/◌, ◌%◌, ◌≤◌, ◌<◌, leb}
use Rattle.std.proofs.Common.{sym, ap, ◌∙◌, arith}
use Rattle.std.proofs.Math.Decide.{dec_le}
use borrow.Author.Tests.{le-leb, lt-leb}
use Rattle.dimension.specs.Sizes.{greatest_depth, split_place, box_side}
use Rattle.dimension.specs.Laws.{side_of}
use Rattle.bisection.specs.Cells.{Cell}
use Rattle.bisection.specs.Codes.{axis, minus, Name}
use Rattle.bisection.specs.Weights.{sum_to}
use Rattle.bisection.specs.Theorems.Axis.{closed, near}
use Rattle.bisection.proofs.Theorems.Axis.{closed_near}
use Rattle.bisection.specs.Theorems.Drawn.{Drawn, box_low, along, entry}
use Rattle.bisection.specs.Theorems.Geometry.{Moves}
use Rattle.bisection.proofs.Theorems.Weights.Sums.{sum_same, sum_add, sum_scale, mean_past}
use Rattle.bisection.specs.Theorems.Weights.Axes.{mean}
use Rattle.bisection.specs.Theorems.Weights.Offsets.{top}

-- how far vertex j lies from the near side along entry i
pub offset : ℕ → ℕ → ℕ → ℕ → ℕ
offset s i k j = cond (leb j i) 0 (cond (leb j k) s (s / 2))

module _ (s i k j : ℕ) where
  pub offset_none : j ≤ i → offset s i k j ≡ 0
  unfolding offset
  offset_none h = simp le-leb

  pub offset_some : i < j → offset s i k j ≡ cond (leb j k) s (s / 2)
  unfolding offset
  offset_some h = simp lt-leb

-- nothing up to place i, c past it
after : ℕ → ℕ → ℕ → ℕ
after c i j = cond (leb j i) 0 c

offset_twice : (s i k d j : ℕ) → (k < d → s % 2 ≡ 0) → j ≤ d → 2 * offset s i k j + after s (top i k) j ≡ after (2 * s) i j
unfolding offset after
offset_twice s i k d j even l = go (dec_le j i) (dec_le j k)
  where
    go : Dec (j ≤ i) → Dec (j ≤ k) → 2 * cond (leb j i) 0 (cond (leb j k) s (s / 2)) + cond (leb j (top i k)) 0 s ≡ cond (leb j i) 0 (2 * s)
    go (yes a) b = let h : j ≤ top i k = omega arith in simp le-leb
    go (no a) (yes b) = let h : j ≤ top i k = omega arith in let g : i < j = omega arith in simp (lt-leb, le-leb) (omega arith)
    go (no a) (no b) = let h : top i k < j = omega arith in let g : i < j = omega arith in let f : k < j = omega arith in simp lt-leb (omega (arith, even (omega arith)))

after_mean : (c n i : ℕ) (w : ℕ → ℕ) → i < n → sum_to n (λ j. w j * after c i j) + c * sum_to (suc i) w ≡ c * sum_to n w
unfolding after
after_mean c n i w l = mean_past c n i w (after c i) l (λ j h. simp le-leb) (λ j h m. simp lt-leb)

-- the offsets, weighed
pub offset_mean : (s i k d : ℕ) (w : ℕ → ℕ) → (k < d → s % 2 ≡ 0) → i ≤ d → k ≤ d
    → 2 * mean d w (offset s i k) + 2 * (s * sum_to (suc i) w) ≡ s * sum_to (suc d) w + s * sum_to (suc (top i k)) w
offset_mean s i k d w even id kd = omega (
  arith,
  after_mean s (suc d) (top i k) w (omega arith),
  after_mean (2 * s) (suc d) i w (omega arith),
  sum_same (suc d) (λ j. w j * after (2 * s) i j) (λ j. 2 * (w j * offset s i k j) + w j * after s (top i k) j)
      (λ j l. ap (λ (x : ℕ). w j * x) (sym (offset_twice s i k d j even (omega arith))) ∙ omega arith),
  sum_add (suc d) (λ j. 2 * (w j * offset s i k j)) (λ j. w j * after s (top i k) j),
  sum_scale 2 (suc d) (λ j. w j * offset s i k j),
)

-- a coordinate is its offset away from the near side; so is a mean of coordinates
closed_away : (lo s : ℕ) (m : Bool) (i k d j : ℕ) → (k < d → s % 2 ≡ 0) → j ≤ d → Moves m (offset s i k j) (near lo s m) (closed lo s m i k j)
unfolding offset closed
closed_away lo s m i k d j even l = go m (dec_le j i) (dec_le j k)
  where
    go : (m : Bool) → Dec (j ≤ i) → Dec (j ≤ k)
        → Moves m (cond (leb j i) 0 (cond (leb j k) s (s / 2))) (near lo s m) (cond (leb j i) (near lo s m) (cond (leb j k) (near lo s (not m)) (lo + s / 2)))
    go m (yes a) b = rw (le-leb j i a) (same m)
      where
        same : (m : Bool) → Moves m 0 (near lo s m) (near lo s m)
        same false = omega arith
        same true = omega arith
    go false (no a) (yes b) = let g : i < j = omega arith in rw (lt-leb j i g, le-leb j k b) (omega arith)
    go true (no a) (yes b) = let g : i < j = omega arith in rw (lt-leb j i g, le-leb j k b) (omega arith)
    go false (no a) (no b) = let g : i < j = omega arith in let f : k < j = omega arith in rw (lt-leb j i g, lt-leb j k f) (omega arith)
    go true (no a) (no b) = let g : i < j = omega arith in let f : k < j = omega arith in rw (lt-leb j i g, lt-leb j k f) (omega (arith, even (omega arith)))

mean_away : (m : Bool) (n start : ℕ) (w o x : ℕ → ℕ) → ((j : ℕ) → j < n → Moves m (o j) start (x j))
    → Moves m (sum_to n (λ j. w j * o j)) (start * sum_to n w) (sum_to n (λ j. w j * x j))
unfolding sum_to
mean_away false zero start w o x h = omega arith
mean_away false (suc n) start w o x h = omega (arith, mean_away false n start w o x (λ j l. h j (omega arith)), ap (λ (z : ℕ). w n * z) (h n (omega arith)))
mean_away true zero start w o x h = omega arith
mean_away true (suc n) start w o x h = omega (arith, mean_away true n start w o x (λ j l. h j (omega arith)), ap (λ (z : ℕ). w n * z) (h n (omega arith)))

-- of a cell: the mean along entry i lies the mean of the offsets away from vertex 0
module _ {d D : ℕ} {m : Name} {vs : Cell} (d0 : 0 < d) (deep : D ≤ greatest_depth d) (r : Drawn d D m vs) (i : ℕ) (l : i < d) where
  abbrev a : ℕ
  a = axis (entry m i)

  pub away : (j : ℕ) → j < suc d → Moves (minus (entry m i)) (offset (box_side d D) i (split_place d D) j) (along vs a 0) (along vs a j)
  away j h = rw (r.reads i l j (omega arith), r.reads i l 0 (omega arith), closed_near lo s (minus (entry m i)) i k 0 (omega arith))
      (closed_away lo s (minus (entry m i)) i k d j (side_of d D d0 deep).even (omega arith))
    where
      lo : ℕ
      lo = box_low a 0 m.orthants

      s : ℕ
      s = box_side d D

      k : ℕ
      k = split_place d D

  pub mean_along : (w : ℕ → ℕ)
      → Moves (minus (entry m i)) (mean d w (offset (box_side d D) i (split_place d D))) (along vs (axis (entry m i)) 0 * sum_to (suc d) w) (mean d w (along vs (axis (entry m i))))
  mean_along w = mean_away (minus (entry m i)) (suc d) (along vs a 0) w (offset (box_side d D) i (split_place d D)) (along vs a) away
