-- The equations of a cell's vertices are those along its entries: on an entry's axis vertex j is its offset away from vertex 0, by the
-- entry's sign, and the entry's number with that sign is p less q.
use Rattle.std.specs.Prelude.{◌≡◌, refl, Bool, true, false, cond, List, ℕ, zero, suc, ◌+◌, ◌*◌, ◌≤◌, ◌<◌, ℤ, pos, ◌*ℤ◌}
use Rattle.std.proofs.Common.{ap, ◌∙◌}
use native.Mathlib.Omega.{arith}
use Rattle.std.proofs.Math.Decide.{ℕ_discrete}
use Rattle.std.proofs.Math.IntN.{sub_ℕ}
use Rattle.std.proofs.Math.ListN.{length}
use Rattle.dimension.specs.Sizes.{greatest_depth, split_place, box_side}
use Rattle.bisection.specs.Cells.{Cell}
use Rattle.bisection.specs.Codes.{axis, minus, Name}
use Rattle.bisection.specs.Weights.{sum_to}
use Rattle.bisection.specs.Slopes.{sumℤ, on_axis, apart, Linear}
use Rattle.bisection.specs.Theorems.Entries.{Signed}
use Rattle.bisection.specs.Theorems.Drawn.{Drawn, along, entry}
use Rattle.bisection.specs.Theorems.Geometry.{Moves}
use Rattle.bisection.proofs.Theorems.Weights.Sums.{sum_same, sum_add, sum_scale}
use Rattle.bisection.proofs.Theorems.Weights.Offsets.{offset, offset_none, offset_some, away}
use Rattle.bisection.specs.Theorems.Slopes.Differences.{over, under, Less}
use Rattle.bisection.proofs.Theorems.Slopes.Differences.{less_same, less_one, less_sub, less_sum, less_times, less_mul}
use Rattle.bisection.proofs.Theorems.Slopes.Places.{axes_by_entries}
use Rattle.bisection.specs.Theorems.Slopes.Rising.{reach}
use Rattle.bisection.proofs.Theorems.Slopes.Rising.{Balanced}

-- sums of terms that balance
sums_balance : (n : ℕ) (a b c e : ℕ → ℕ) → ((t : ℕ) → t < n → a t + b t ≡ c t + e t) → sum_to n a + sum_to n b ≡ sum_to n c + sum_to n e
unfolding sum_to
sums_balance zero a b c e h = refl
sums_balance (suc n) a b c e h = omega (arith, sums_balance n a b c e (λ t l. h t (omega arith)), h n (omega arith))

-- a sum whose terms end at place j
sum_ends : (n j c : ℕ) (w p : ℕ → ℕ) → j ≤ n → ((t : ℕ) → t < j → w t ≡ c * p t) → ((t : ℕ) → j ≤ t → w t ≡ 0) → sum_to n w ≡ c * sum_to j p
unfolding sum_to
sum_ends n j c w p l h z = go n l
  where
    go : (n : ℕ) → j ≤ n → sum_to n w ≡ c * sum_to j p
    go zero l = let e : j ≡ 0 = omega arith in rw e (omega arith)
    go (suc n) l = pick (ℕ_discrete j (suc n)) (go n)
      where
        pick : Dec (j ≡ suc n) → (j ≤ n → sum_to n w ≡ c * sum_to j p) → sum_to n w + w n ≡ c * sum_to j p
        pick (yes e) t = rw e (sum_same (suc n) w (λ t. c * p t) (λ t m. h t (omega arith)) ∙ sum_scale c (suc n) p)
        pick (no e) t = omega (arith, t (omega arith), z n (omega arith))

-- on one axis: with x0, x and y the coordinates of vertex 0 and two others, o and u the others' ways from vertex 0
axis_balance : (m : Bool) (a b x0 x y o u : ℕ) → Moves m o x0 x → Moves m u x0 y
    → a * x + b * y + (cond m b a * u + cond m a b * o) ≡ a * y + b * x + (cond m b a * o + cond m a b * u)
axis_balance false a b x0 x y o u h g = omega (arith, ap (λ (z : ℕ). a * z) h, ap (λ (z : ℕ). b * z) h, ap (λ (z : ℕ). a * z) g, ap (λ (z : ℕ). b * z) g)
axis_balance true a b x0 x y o u h g = omega (arith, ap (λ (z : ℕ). a * z) h, ap (λ (z : ℕ). b * z) h, ap (λ (z : ℕ). a * z) g, ap (λ (z : ℕ). b * z) g)

module _ {d D : ℕ} {m : Name} {vs : Cell} (d0 : 0 < d) (deep : D ≤ greatest_depth d) (g : Signed d m.entries) (r : Drawn d D m vs) (f : ℕ → ℕ) (ns : List ℤ) where
  abbrev k : ℕ
  k = split_place d D

  abbrev s : ℕ
  s = box_side d D

  -- the number on an entry's axis, by the entry's sign
  abbrev pub up : ℕ → ℕ
  up i = cond (minus (entry m i)) (under (on_axis ns (axis (entry m i)))) (over (on_axis ns (axis (entry m i))))

  abbrev pub down : ℕ → ℕ
  down i = cond (minus (entry m i)) (over (on_axis ns (axis (entry m i)))) (under (on_axis ns (axis (entry m i))))

  -- on axis a, with the signs moved to the other side
  on_one : ℕ → ℕ → ℕ → ℕ
  on_one i j a = over (on_axis ns a) * along vs a i + under (on_axis ns a) * along vs a j

  on_all : ℕ → ℕ → ℕ
  on_all i j = sum_to d (λ t. on_one i j (suc t))

  -- the offsets of vertex j along all entries
  offsets : (w : ℕ → ℕ) (j : ℕ) → j ≤ d → sum_to d (λ i. w i * offset s i k j) ≡ reach s k j * sum_to j w
  offsets w j l = sum_ends d j (reach s k j) (λ i. w i * offset s i k j) w l (λ i h. rw (offset_some s i k j h) (omega arith)) (λ i h. rw (offset_none s i k j h) (omega arith))

  offsets_two : (i j : ℕ) → i ≤ d → j ≤ d → sum_to d (λ t. up t * offset s t k j + down t * offset s t k i) ≡ reach s k j * sum_to j up + reach s k i * sum_to i down
  offsets_two i j l n = sum_add d (λ t. up t * offset s t k j) (λ t. down t * offset s t k i) ∙ omega (arith, offsets up j n, offsets down i l)

  balance : (i j : ℕ) → i ≤ d → j ≤ d
      → on_all i j + (reach s k j * sum_to j up + reach s k i * sum_to i down) ≡ on_all j i + (reach s k i * sum_to i up + reach s k j * sum_to j down)
  unfolding on_all on_one
  balance i j l n = omega (
    arith,
    axes_by_entries g (on_one i j),
    axes_by_entries g (on_one j i),
    offsets_two i j l n,
    offsets_two j i n l,
    sums_balance d (λ t. on_one i j (axis (entry m t))) (λ t. up t * offset s t k j + down t * offset s t k i)
        (λ t. on_one j i (axis (entry m t))) (λ t. up t * offset s t k i + down t * offset s t k j)
        (λ t h. axis_balance (minus (entry m t)) (over (on_axis ns (axis (entry m t)))) (under (on_axis ns (axis (entry m t)))) (along vs (axis (entry m t)) 0) (along vs (axis (entry m t)) i)
        (along vs (axis (entry m t)) j) (offset s t k i) (offset s t k j) (away d0 deep r t h i (omega arith)) (away d0 deep r t h j (omega arith))),
  )

  -- the two sides of the equation of vertices i and j
  samples_side : (i j : ℕ) → Less (pos s *ℤ sub_ℕ (f j) (f i)) (s * f j) (s * f i)
  samples_side i j = less_times s (sub_ℕ (f j) (f i)) (less_sub (f j) (f i))

  axes_side : (i j : ℕ) → Less (sumℤ d (λ t. on_axis ns (suc t) *ℤ apart vs i j (suc t))) (on_all j i) (on_all i j)
  unfolding on_all on_one
  axes_side i j = less_sum d (λ t. on_axis ns (suc t) *ℤ apart vs i j (suc t)) (λ t. on_one j i (suc t)) (λ t. on_one i j (suc t))
      (λ t l. less_mul (on_axis ns (suc t)) (apart vs i j (suc t)) (less_sub (along vs (suc t) j) (along vs (suc t) i)))

  pub slope_balanced : Linear s vs f ns → (j : ℕ) → j ≤ d → Balanced s k f up down j
  unfolding sum_to
  slope_balanced h j l = omega (arith, less_same (samples_side 0 j) (axes_side 0 j) equation, balance 0 j (omega arith) l)
    where
      count : length ns ≡ d
      count = omega (arith, h.count, r.sized.size)

      equation : pos s *ℤ sub_ℕ (f j) (f 0) ≡ sumℤ d (λ t. on_axis ns (suc t) *ℤ apart vs 0 j (suc t))
      equation = rw count at (h.between 0 j (omega (arith, r.sized.size)) (omega (arith, r.sized.size)))

  pub balanced_slope : length ns ≡ d → ((j : ℕ) → j ≤ d → Balanced s k f up down j) → Linear s vs f ns
  balanced_slope count b = record {
    count = omega (arith, count, r.sized.size);
    between = λ i j l n. rw count (less_one (samples_side i j) (axes_side i j)
        (omega (arith, balance i j (omega (arith, r.sized.size)) (omega (arith, r.sized.size)), b i (omega (arith, r.sized.size)), b j (omega (arith, r.sized.size)))));
  }
