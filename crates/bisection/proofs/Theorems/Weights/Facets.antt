-- The points of a facet are those of the cell that the vertex it lacks does not weigh: weights in a facet are weights in the cell with
-- nothing at that vertex. And points inside points of a face of the cube lie in that face.
use Rattle.std.specs.Prelude.{◌≡◌, refl, cond, eqb, ltb, length}
use Rattle.std.proofs.Math.Path.{sym, ap}
use Rattle.std.proofs.Common.{◌∙◌, arith, add-mul, eq-eqb, ne_eqb, lt-ltb, le-ltb}
use mathlib.Core.List.{List, [], Memᴰ}
use Prim.Native.Nat.{ℕ, suc, ◌+◌, ◌-◌, ◌*◌, ◌≤◌, ◌<◌}
use Rattle.std.proofs.Math.Nat.{eq_of_mul-eq-mul_left}
use Rattle.std.proofs.Math.Decide.{dec_lt}
use Rattle.std.proofs.Math.ListN.{get_or}
use Rattle.dimension.specs.Sizes.{greatest_depth}
use Rattle.bisection.specs.Cells.{Point, Cell, coordinate, vertex}
use Rattle.bisection.specs.Codes.{Name}
use Rattle.bisection.specs.Facets.{facet, InFace}
use Rattle.bisection.specs.Weights.{sum_to, total, weighted, Weighs, Inside, LiesInside}
use Rattle.bisection.specs.Theorems.Entries.{Signed}
use Rattle.bisection.specs.Theorems.Drawn.{Sized, Drawn, along}
use Rattle.bisection.specs.Theorems.Crossing.Skips.{skip}
use Rattle.bisection.proofs.Theorems.Crossing.Skips.{skip_before, skip_past, skip_other}
use Rattle.bisection.proofs.Theorems.Crossing.Points.{facet_at, facet_length, place_mem}
use Rattle.bisection.specs.Theorems.Weights.Sums.{only}
use Rattle.bisection.proofs.Theorems.Weights.Sums.{sum_same, sum_add, sum_scale, sum_skip, sum_only, mean_only}
use Rattle.bisection.specs.Theorems.Weights.Axes.{mean, Axes, list_of}
use Rattle.bisection.proofs.Theorems.Weights.Axes.{list_length, list_at}
use Rattle.bisection.proofs.Theorems.Weights.Independent.{axes_scaled}

-- weights in a facet as weights in the cell
spread : ℕ → (ℕ → ℕ) → ℕ → ℕ
spread i w u = cond (eqb u i) 0 (w (cond (ltb u i) u (u - 1)))

spread_none : (i : ℕ) (w : ℕ → ℕ) → spread i w i ≡ 0
unfolding spread
spread_none i w = rw (eq-eqb i i refl) refl

spread_skip : (i : ℕ) (w : ℕ → ℕ) (t : ℕ) → spread i w (skip i t) ≡ w t
unfolding spread
spread_skip i w t = rw (ne_eqb (skip i t) i (skip_other i t)) (ap w (go (dec_lt t i)))
  where
    go : Dec (t < i) → cond (ltb (skip i t) i) (skip i t) (skip i t - 1) ≡ t
    go (yes h) = rw (skip_before i t h, lt-ltb t i h) refl
    go (no h) = let q : i ≤ t = omega arith in rw (skip_past i t q, le-ltb (suc t) i (omega arith)) (omega arith)

module _ {d : ℕ} {vs : Cell} (z : Sized d vs) (i : ℕ) (il : i ≤ d) where
  room : i < length vs
  room = omega (arith, z.size)

  size : length (facet i vs) ≡ d
  size = omega (arith, facet_length vs i room, z.size)

  -- a sum over the cell with nothing at place i is one over the facet
  sum_facet : (w : ℕ → ℕ) → w i ≡ 0 → sum_to (suc d) w ≡ sum_to d (λ t. w (skip i t))
  sum_facet w e = omega (arith, sum_skip d i w il)

  mean_facet : (w : ℕ → ℕ) → w i ≡ 0 → (a : ℕ) → mean d w (along vs a) ≡ sum_to d (λ t. w (skip i t) * coordinate (vertex (facet i vs) t) a)
  mean_facet w e a = sum_skip d i (λ u. w u * along vs a u) il
      ∙ rw e (omega (
        arith,
        sum_same d (λ t. w (skip i t) * along vs a (skip i t)) (λ t. w (skip i t) * coordinate (vertex (facet i vs) t) a)
            (λ t l. ap (λ (v : Point). w (skip i t) * coordinate v a) (sym (facet_at vs i room t))),
      ))

  module _ {p : Point} (dims : length p ≡ d) where
    facet_axes : {W : ℕ} {ws : List ℕ} → Weighs (facet i vs) p W ws → Axes d (along vs) p W (spread i (λ t. get_or ws t 0))
    unfolding total weighted
    facet_axes {W} {ws} h = record {
      sum = sum_facet (spread i w) (spread_none i w) ∙ sum_same d (λ t. spread i w (skip i t)) w (λ t l. spread_skip i w t) ∙ rw long at h.sum;
      means = λ a l u. mean_facet (spread i w) (spread_none i w) a
          ∙ sum_same d (λ t. spread i w (skip i t) * coordinate (vertex (facet i vs) t) a) (λ t. w t * coordinate (vertex (facet i vs) t) a)
          (λ t n. ap (λ (x : ℕ). x * coordinate (vertex (facet i vs) t) a) (spread_skip i w t))
          ∙ rw long at (h.mean a l (omega arith));
    }
      where
        w : ℕ → ℕ
        w t = get_or ws t 0

        long : length ws ≡ d
        long = h.count ∙ size

    axes_facet : {W : ℕ} {w : ℕ → ℕ} → Axes d (along vs) p W w → w i ≡ 0 → Weighs (facet i vs) p W (list_of d (λ t. w (skip i t)))
    unfolding total weighted
    axes_facet {W} {w} h e = record {
      count = long ∙ sym size;
      sum = rw long (sum_same d (λ t. get_or (list_of d f) t 0) f (list_at d f) ∙ sym (sum_facet w e) ∙ h.sum);
      mean = λ a l u. rw long (sum_same d (λ t. get_or (list_of d f) t 0 * coordinate (vertex (facet i vs) t) a) (λ t. f t * coordinate (vertex (facet i vs) t) a)
          (λ t n. ap (λ (x : ℕ). x * coordinate (vertex (facet i vs) t) a) (list_at d f t n)) ∙ sym (mean_facet w e a) ∙ h.means a l (omega arith));
    }
      where
        f : ℕ → ℕ
        f t = w (skip i t)

        long : length (list_of d f) ≡ d
        long = list_length d f

    -- a point that some weights give without vertex i lies inside the facet
    pub weightless_inside : {W : ℕ} {w : ℕ → ℕ} → 0 < W → Axes d (along vs) p W w → w i ≡ 0 → Inside (facet i vs) p
    weightless_inside {W} {w} l h e = record { W = W; some = l; ws = list_of d (λ t. w (skip i t)); weighs = axes_facet h e }

    -- and vertex i weighs nothing for any point inside it
    pub inside_weightless : {D : ℕ} {m : Name} → 0 < d → D ≤ greatest_depth d → Signed d m.entries → Drawn d D m vs
        → Inside (facet i vs) p → {W : ℕ} {w : ℕ → ℕ} → Axes d (along vs) p W w → w i ≡ 0
    inside_weightless d0 deep g r n {W} {w} h = eq_of_mul-eq-mul_left n.W n.some (w i) 0
        (sym (axes_scaled d0 deep g r (facet_axes n.weighs) h i il) ∙ rw (spread_none i (λ t. get_or n.ws t 0)) (omega arith))

-- a vertex is given by itself, and what is halfway between two of them by both
module _ {d : ℕ} (vs : Cell) where
  pub vertex_axes : (t : ℕ) → t ≤ d → Axes d (along vs) (vertex vs t) 1 (only t 1)
  vertex_axes t l = record { sum = sum_only (suc d) t 1 (omega arith); means = λ a x y. mean_only (suc d) t 1 (along vs a) (omega arith) }

  pub halfway_axes : (t u : ℕ) → t ≤ d → u ≤ d → {m : Point} → ((a : ℕ) → 1 ≤ a → a ≤ d → along vs a t + along vs a u ≡ 2 * coordinate m a)
      → Axes d (along vs) m 2 (λ j. only t 1 j + only u 1 j)
  halfway_axes t u l n {m} h = record {
    sum = sum_add (suc d) (only t 1) (only u 1) ∙ omega (arith, sum_only (suc d) t 1 (omega arith), sum_only (suc d) u 1 (omega arith));
    means = λ a x y. sum_same (suc d) (λ j. (only t 1 j + only u 1 j) * along vs a j) (λ j. only t 1 j * along vs a j + only u 1 j * along vs a j)
        (λ j q. add-mul (only t 1 j) (only u 1 j) (along vs a j))
        ∙ sum_add (suc d) (λ j. only t 1 j * along vs a j) (λ j. only u 1 j * along vs a j)
        ∙ omega (arith, mean_only (suc d) t 1 (along vs a) (omega arith), mean_only (suc d) u 1 (along vs a) (omega arith), h a x y);
  }

-- points inside points of a face of the cube
pub inside_face : {d : ℕ} {inner outer : List Point} → ((v : Point) → Memᴰ v inner → length v ≡ d) → LiesInside inner outer → InFace d outer → InFace d inner
unfolding total weighted
inside_face {d} {inner} {outer} dims n f = record { a = f.a; low = f.low; high = f.high; height = f.height; edge = f.edge; flat = λ v m. flat v (dims v m) (n v m) }
  where
    flat : (v : Point) → length v ≡ d → Inside outer v → coordinate v f.a ≡ f.height
    flat v e i = eq_of_mul-eq-mul_left i.W i.some (coordinate v f.a) f.height (sym (i.weighs.mean f.a f.low (omega (arith, f.high)))
        ∙ sum_same (length i.ws) (λ j. get_or i.ws j 0 * coordinate (vertex outer j) f.a) (λ j. f.height * get_or i.ws j 0)
        (λ j l. rw (f.flat (vertex outer j) (place_mem [] outer j (omega (arith, i.weighs.count)))) (omega arith))
        ∙ sum_scale f.height (length i.ws) (λ j. get_or i.ws j 0) ∙ rw i.weighs.sum (omega arith))
