-- Which facets of a child lie inside which of the cell's. By weights: each vertex of the child is one of the cell's or the middle of the
-- split edge, so its weights in the cell are known, and it lies inside the cell's facet i exactly where vertex i has none of them. So the
-- child's facet opposite the middle lies inside the facet opposite the end that the child lacks, and is that facet; the one opposite
-- a vertex of the cell lies inside the cell's facet opposite it, unless that vertex is an end; there is no other.
use Rattle.std.specs.Prelude.{◌≡◌, refl, List, ◌≢◌, ℕ, ◌+◌, ◌≤◌, ◌<◌, length}
use Rattle.std.proofs.Common.{sym, ap, ◌∙◌, subst, arith}
use Rattle.std.proofs.Math.Decide.{ℕ_discrete}
use Rattle.dimension.specs.Sizes.{greatest_depth, split_place}
use Rattle.bisection.specs.Cells.{Point, Cell, vertex, child}
use Rattle.bisection.specs.Facets.{facet}
use Rattle.bisection.specs.Weights.{Inside, LiesInside}
use Rattle.bisection.specs.Theorems.Lists.{middle}
use Rattle.bisection.specs.Theorems.Drawn.{Sized, along}
use Rattle.bisection.proofs.Theorems.Drawn.{middle_length, middle_at}
use Rattle.bisection.proofs.Theorems.Geometry.{split_even}
use Rattle.bisection.specs.Theorems.Crossing.Skips.{skip, Skipped}
use Rattle.bisection.proofs.Theorems.Crossing.Skips.{skip_in, skip_other, skip_one, skipped}
use Rattle.bisection.specs.Theorems.Crossing.Points.{OtherPlace}
use Rattle.bisection.proofs.Theorems.Crossing.Points.{mem_facet, facet_mem}
use Rattle.bisection.specs.Theorems.Crossing.Coded.{Coded}
use Rattle.bisection.proofs.Theorems.Crossing.Coded.{some, range}
use Rattle.bisection.specs.Theorems.Weights.Sums.{only}
use Rattle.bisection.proofs.Theorems.Weights.Sums.{only_at, only_other}
use Rattle.bisection.specs.Theorems.Weights.Axes.{Axes}
use Rattle.bisection.proofs.Theorems.Weights.Facets.{weightless_inside, inside_weightless, vertex_axes, halfway_axes}
use Rattle.bisection.specs.Theorems.Splitting.Children.{lacks, keeps, kept_at}
use Rattle.bisection.proofs.Theorems.Splitting.Children.{inner, no_end, kept_place, kept_end, child_middle, child_kept, child_size, lacks_in}
use Rattle.bisection.specs.Theorems.Splitting.Inside.{Holder, Lies, part, whole}

-- inside one facet at most, and not where the facet is opposite the end that is kept
pub lies_one : {d b k i i' j : ℕ} → Lies d b k i j → Lies d b k i' j → i ≡ i'
lies_one (whole e q) (whole e' q') = q ∙ sym q'
lies_one {k = k} (whole e q) (part t l p q' n) = absurd (skip_other k t (sym p ∙ e))
lies_one {k = k} (part t l p q n) (whole e q') = absurd (skip_other k t (sym p ∙ e))
lies_one {b = b} {k = k} (part t l p q n) (part t' l' p' q' n') = q ∙ ap (skip (lacks b k)) (skip_one k t t' (sym p ∙ p')) ∙ sym q'

pub lies_not_kept : {d b k i j : ℕ} → 1 ≤ k → Lies d b k i j → j ≢ kept_at b k
lies_not_kept {b = b} {k = k} k1 (whole e q) r = skip_other k (kept_at b k) (kept_place k k1 b ∙ sym r ∙ e)
lies_not_kept {b = b} {k = k} k1 (part t l p q n) r = n (q ∙ ap (skip (lacks b k)) (skip_one k t (kept_at b k) (sym p ∙ r ∙ sym (kept_place k k1 b))) ∙ kept_end k k1 b)

pub holder : {d : ℕ} (b k j : ℕ) → 1 ≤ k → k ≤ d → j ≤ d → j ≢ kept_at b k → lacks b k ≤ d → Holder d b k j
holder {d} b k j k1 kd jl n e = go (ℕ_discrete j k)
  where
    go : Dec (j ≡ k) → Holder d b k j
    go (yes q) = record { i = lacks b k; within = e; lies = whole q refl }
    go (no q) =
        let s : Skipped d k j = skipped k j kd jl q in
        record {
          i = skip (lacks b k) s.from;
          within = skip_in (lacks b k) s.from s.below;
          lies = part s.from s.below (sym s.is) refl (λ r. n (sym s.is
              ∙ ap (skip k) (skip_one (lacks b k) s.from (kept_at b k) (r ∙ sym (kept_end k k1 b))) ∙ kept_place k k1 b));
        }

module _ {d D : ℕ} {code : List ℕ} {vs : Cell} (c : Coded d D code vs) (deep : D < greatest_depth d) (b i j : ℕ) (il : i ≤ d) (jl : j ≤ d) where
  abbrev k : ℕ
  k = split_place d D

  abbrev us : Cell
  us = child b k vs

  z : Sized d vs
  z = c.drawn.sized

  kd : k ≤ d
  kd = (range c).1

  -- the weights of the child's vertices in the cell
  kept_axes : (t : ℕ) → t < d → Axes d (along vs) (vertex us (skip k t)) 1 (only (skip (lacks b k) t) 1)
  kept_axes t l = rw (child_kept z k kd b t) (vertex_axes vs (skip (lacks b k) t) (skip_in (lacks b k) t l))

  middle_axes : Axes d (along vs) (middle k vs) 2 (λ u. only 0 1 u + only k 1 u)
  middle_axes = halfway_axes vs 0 k (omega arith) kd (λ a l h. omega (arith, middle_at d k vs z kd a, split_even (some c) deep c.passes.signed c.drawn a l h))

  dims : (t : ℕ) → t < d → length (vertex us (skip k t)) ≡ d
  dims t l = rw (child_kept z k kd b t) (z.dims (skip (lacks b k) t) (skip_in (lacks b k) t l))

  weightless : {p : Point} → length p ≡ d → Inside (facet i vs) p → {W : ℕ} {w : ℕ → ℕ} → Axes d (along vs) p W w → w i ≡ 0
  weightless e = inside_weightless z i il e (some c) c.deep c.passes.signed c.drawn

  pub inside_lies : LiesInside (facet j us) (facet i vs) → Lies d b k i j
  inside_lies n = go (ℕ_discrete j k)
    where
      at : (u : ℕ) → u ≤ d → u ≢ j → Inside (facet i vs) (vertex us u)
      at u l q = n (vertex us u) (facet_mem us j (omega (arith, child_size z k kd b)) u (omega (arith, child_size z k kd b)) q)

      -- a vertex of the cell that stands in facet j is not vertex i
      other : (t : ℕ) → t < d → skip k t ≢ j → skip (lacks b k) t ≢ i
      other t l q e = omega (arith, weightless (dims t l) (at (skip k t) (skip_in k t l) q) (kept_axes t l), only_at (skip (lacks b k) t) 1 i (sym e))

      -- and with the middle in facet j, no end is
      not_end : j ≢ k → (i ≢ 0) × (i ≢ k)
      not_end q = (λ e. omega (arith, none, only_at 0 1 i e), λ e. omega (arith, none, only_at k 1 i e))
        where
          none : only 0 1 i + only k 1 i ≡ 0
          none = weightless (middle_length d k vs z kd) (subst (Inside (facet i vs)) (child_middle z k kd b) (at k kd (λ r. q (sym r)))) middle_axes

      met : i ≢ lacks b k → Skipped d (lacks b k) i
      met = skipped (lacks b k) i (lacks_in z k kd b) il

      whole_one : j ≡ k → Dec (i ≡ lacks b k) → Lies d b k i j
      whole_one e (yes q) = whole e q
      whole_one e (no q) = let s = met q in absurd (other s.from s.below (λ r. skip_other k s.from (r ∙ e)) s.is)

      one_part : (i ≢ lacks b k) × (i ≢ keeps b k) → (s : Skipped d (lacks b k) i) → Dec (skip k s.from ≡ j) → Lies d b k i j
      one_part q s (yes e) = part s.from s.below (sym e) (sym s.is) q.1
      one_part q s (no e) = absurd (other s.from s.below e s.is)

      go : Dec (j ≡ k) → Lies d b k i j
      go (yes e) = whole_one e (ℕ_discrete i (lacks b k))
      go (no q) = let o = no_end b (not_end q).0 (not_end q).1 in let s = met o.0 in one_part o s (ℕ_discrete (skip k s.from) j)

  pub lies_inside : Lies d b k i j → LiesInside (facet j us) (facet i vs)
  lies_inside h v m = go (ℕ_discrete p.place k)
    where
      p : OtherPlace v j us
      p = mem_facet us j (omega (arith, child_size z k kd b)) m

      l : p.place ≤ d
      l = omega (arith, p.below, child_size z k kd b)

      other : (t : ℕ) → p.place ≡ skip k t → Lies d b k i j → i ≢ skip (lacks b k) t
      other t e (whole q r) s = skip_other (lacks b k) t (sym s ∙ r)
      other t e (part t' l' q r n) s = p.other (e ∙ ap (skip k) (skip_one (lacks b k) t t' (sym s ∙ r)) ∙ sym q)

      neither : p.place ≡ k → Lies d b k i j → (i ≢ 0) × (i ≢ k)
      neither e (whole q r) = absurd (p.other (e ∙ sym q))
      neither e (part t l' q r n) = inner b (λ s. skip_other (lacks b k) t (sym r ∙ s)) n

      go : Dec (p.place ≡ k) → Inside (facet i vs) v
      go (yes e) = subst (Inside (facet i vs)) (sym (p.is ∙ ap (vertex us) e ∙ child_middle z k kd b))
          (weightless_inside z i il (middle_length d k vs z kd) (omega arith) middle_axes (omega (arith, only_other 0 1 i (neither e h).0, only_other k 1 i (neither e h).1)))
      go (no e) =
          let s : Skipped d k p.place = skipped k p.place kd l e in
          subst (Inside (facet i vs)) (sym (p.is ∙ ap (vertex us) (sym s.is)))
          (weightless_inside z i il (dims s.from s.below) (omega arith) (kept_axes s.from s.below) (only_other (skip (lacks b k) s.from) 1 i (other s.from (sym s.is) h)))
