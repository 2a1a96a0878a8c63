-- A child by its places. Of the two ends of the split edge child b lacks one and keeps the other. At place k stands the middle of that
-- edge; the child's other vertices are the cell's but for the end that it lacks, in order.
use Rattle.std.specs.Prelude.{◌≡◌, refl, [], ◌≢◌, ℕ, zero, suc, ◌-◌, ◌≤◌, ◌<◌, length}
use Rattle.std.proofs.Common.{◌∙◌, arith, get_or-set_same, get_or-set_other}
use Rattle.std.proofs.Math.Decide.{dec_lt}
use Rattle.bisection.specs.Cells.{Cell, vertex, child}
use Rattle.bisection.specs.Facets.{facet}
use Rattle.bisection.specs.Theorems.Lists.{middle, shifted}
use Rattle.bisection.proofs.Theorems.Lists.{child_set, child_shifted, shifted_before, shifted_at, shifted_past}
use Rattle.bisection.specs.Theorems.Drawn.{Sized}
use Rattle.bisection.proofs.Theorems.Drawn.{sized_child}
use Rattle.bisection.specs.Theorems.Crossing.Skips.{skip}
use Rattle.bisection.proofs.Theorems.Crossing.Skips.{skip_before, skip_past, skip_other}
use Rattle.bisection.proofs.Theorems.Crossing.Points.{same_facet}
use Rattle.bisection.specs.Theorems.Splitting.Children.{keeps, kept_at, lacks}

-- what is neither end
pub inner : (b : ℕ) {k i : ℕ} → i ≢ lacks b k → i ≢ keeps b k → (i ≢ 0) × (i ≢ k)
inner zero l n = (n, l)
inner (suc b) l n = (l, n)

pub no_end : (b : ℕ) {k i : ℕ} → i ≢ 0 → i ≢ k → (i ≢ lacks b k) × (i ≢ keeps b k)
no_end zero n l = (l, n)
no_end (suc b) n l = (n, l)

pub kept_in : (b k : ℕ) {d : ℕ} → k ≤ d → kept_at b k ≤ d
kept_in zero k l = omega arith
kept_in (suc b) k l = omega arith

-- the end that is kept, among the vertices that are not the middle
module _ (k : ℕ) (k1 : 1 ≤ k) where
  pub kept_place : (b : ℕ) → skip k (kept_at b k) ≡ kept_at b k
  kept_place zero = skip_before k 0 k1
  kept_place (suc b) = skip_before k (k - 1) (omega arith)

  pub kept_end : (b : ℕ) → skip (lacks b k) (kept_at b k) ≡ keeps b k
  kept_end zero = skip_before k 0 k1
  kept_end (suc b) = skip_past 0 (k - 1) (omega arith) ∙ omega arith

-- the sibling lacks what the child keeps, and keeps what it lacks
pub sibling_lacks : (b k : ℕ) → b ≤ 1 → lacks (1 - b) k ≡ keeps b k
sibling_lacks zero k l = refl
sibling_lacks (suc zero) k l = refl
sibling_lacks (suc (suc b)) k l = absurd (omega arith)

pub sibling_keeps : (b k : ℕ) → b ≤ 1 → lacks b k ≡ keeps (1 - b) k
sibling_keeps zero k l = refl
sibling_keeps (suc zero) k l = refl
sibling_keeps (suc (suc b)) k l = absurd (omega arith)

module _ {d : ℕ} {vs : Cell} (z : Sized d vs) (k : ℕ) (kd : k ≤ d) where
  room : k < length vs
  room = omega (arith, z.size)

  pub child_middle : (b : ℕ) → vertex (child b k vs) k ≡ middle k vs
  child_middle zero = rw (child_set k vs room) (get_or-set_same vs k (middle k vs) [] room)
  child_middle (suc b) = rw (child_shifted b k vs) (shifted_at [] k (middle k vs) vs room k refl)

  pub child_kept : (b t : ℕ) → vertex (child b k vs) (skip k t) ≡ vertex vs (skip (lacks b k) t)
  child_kept zero t = rw (child_set k vs room) (get_or-set_other vs k (skip k t) (middle k vs) [] (skip_other k t))
  child_kept (suc b) t = rw (child_shifted b k vs, skip_past 0 t (omega arith)) (go (dec_lt t k))
    where
      go : Dec (t < k) → vertex (shifted k (middle k vs) vs) (skip k t) ≡ vertex vs (suc t)
      go (yes h) = rw (skip_before k t h) (shifted_before [] k (middle k vs) vs room t h)
      go (no h) = let q : k ≤ t = omega arith in rw (skip_past k t q) (shifted_past [] k (middle k vs) vs room (suc t) (omega arith))

  pub child_size : (b : ℕ) → length (child b k vs) ≡ suc d
  child_size b = (sized_child d k vs z kd b).size

  pub lacks_in : (b : ℕ) → lacks b k ≤ d
  lacks_in zero = kd
  lacks_in (suc b) = omega arith

  -- the child's facet opposite the middle is the cell's opposite the end that it lacks
  pub child_facet : (b : ℕ) → facet k (child b k vs) ≡ facet (lacks b k) vs
  child_facet b = same_facet (child b k vs) vs k (lacks b k) (child_size b) z.size kd (lacks_in b) (λ t l. child_kept b t)
