-- A cell by its frame: for each axis its place, its near side and its far side. Past k the number of odd halves is the
-- vertex's place; up to k the number of odd sides grows by one with each vertex. So a vertex that two frames of one
-- depth share has the same place past k in both, and up to k the two places differ by one shift for all vertices.
use Rattle.std.specs.Prelude.{◌≡◌, ℕ, ◌+◌, ◌/◌, ◌%◌, ◌≤◌, ◌<◌}
use Rattle.std.proofs.Common.{ap, ◌∙◌}
use native.Mathlib.Omega.{arith}
use Rattle.std.proofs.Math.Decide.{dec_lt, dec_le}
use Rattle.bisection.specs.Theorems.Crossing.Sums.{sum, up_to}
use Rattle.bisection.proofs.Theorems.Crossing.Sums.{sum_same, sum_plus, sum_none, count}
use Rattle.bisection.specs.Theorems.Crossing.Rows.{row, Sides}
use Rattle.bisection.proofs.Theorems.Crossing.Rows.{row_before, row_in, row_past, sides_odd}
use Rattle.bisection.specs.Theorems.Crossing.Frames.{Frame, GoodFrame, Meets, rank, vert}

-- one axis
module _ {x y : ℕ} (s : Sides x y) (k p j : ℕ) where
  half_past : k < j → row k p x y j % 2 ≡ up_to j p
  half_past h = go (dec_lt j p)
    where
      go : Dec (j < p) → row k p x y j % 2 ≡ up_to j p
      go (yes c) = rw (row_before k p x y j c) (omega arith)
      go (no c) = let l : p ≤ j = omega arith in rw (row_past k p x y j l h) (omega (arith, sides_odd s))

  half_none : j ≤ k → row k p x y j % 2 ≡ 0
  half_none h = go (dec_lt j p)
    where
      go : Dec (j < p) → row k p x y j % 2 ≡ 0
      go (yes c) = rw (row_before k p x y j c) (omega arith)
      go (no c) = let l : p ≤ j = omega arith in rw (row_in k p x y j l h) (omega arith)

  rank_one : 1 ≤ p → (p ≤ k → x % 2 ≡ 0) → j ≤ k → row k p x y j / 2 % 2 ≡ row k p x y 0 / 2 % 2 + up_to j p
  rank_one p1 ev h = go (dec_lt j p)
    where
      go : Dec (j < p) → row k p x y j / 2 % 2 ≡ row k p x y 0 / 2 % 2 + up_to j p
      go (yes c) = rw (row_before k p x y j c, row_before k p x y 0 p1) (omega arith)
      go (no c) = let l : p ≤ j = omega arith in let e : x % 2 ≡ 0 = ev (omega arith) in
          rw (row_in k p x y j l h, row_before k p x y 0 p1) (omega (arith, sides_odd s))

-- all axes
module _ {d k : ℕ} {c : Frame} (g : GoodFrame d k c) (j : ℕ) where
  pub half_high : k < j → j ≤ d → sum (λ a. vert k c j a % 2) d ≡ j
  half_high h l = sum_same (λ a. vert k c j a % 2) (λ a. up_to j (c.at a)) d (λ a la. half_past (g.sides a la) k (c.at a) j h) ∙ count g.perm j l

  pub half_low_is : j ≤ k → sum (λ a. vert k c j a % 2) d ≡ 0
  half_low_is h = sum_none (λ a. vert k c j a % 2) d (λ a la. half_none (g.sides a la) k (c.at a) j h)

  rank_low : j ≤ k → k ≤ d → sum (λ a. vert k c j a / 2 % 2) d ≡ rank d k c + j
  unfolding rank
  rank_low h kd = omega (
    arith,
    count g.perm j (omega arith),
    sum_plus (λ a. vert k c j a / 2 % 2) (λ a. vert k c 0 a / 2 % 2) (λ a. up_to j (c.at a)) d
        (λ a la. rank_one (g.sides a la) k (c.at a) j (g.perm.first a la) (g.even a la) h),
  )

module _ {d k : ℕ} {c c' : Frame} (g : GoodFrame d k c) (g' : GoodFrame d k c') (kd : k ≤ d) (j j' : ℕ) (l' : j' ≤ d) (m : Meets d k c j c' j') where
  halves : sum (λ a. vert k c j a % 2) d ≡ sum (λ a. vert k c' j' a % 2) d
  halves = sum_same (λ a. vert k c j a % 2) (λ a. vert k c' j' a % 2) d (λ a la. ap (λ (u : ℕ). u % 2) (m a la))

  ranks : sum (λ a. vert k c j a / 2 % 2) d ≡ sum (λ a. vert k c' j' a / 2 % 2) d
  ranks = sum_same (λ a. vert k c j a / 2 % 2) (λ a. vert k c' j' a / 2 % 2) d (λ a la. ap (λ (u : ℕ). u / 2 % 2) (m a la))

  pub meet_high : k < j → j ≤ d → j' ≡ j
  meet_high h l = go (dec_le j' k)
    where
      go : Dec (j' ≤ k) → j' ≡ j
      go (yes b) = absurd (omega (arith, halves, half_high g j h l, half_low_is g' j' b))
      go (no b) = omega (arith, halves, half_high g j h l, half_high g' j' (omega arith) l')

  pub meet_low : j ≤ k → (j' ≤ k) × (rank d k c + j ≡ rank d k c' + j')
  meet_low h = go (dec_le j' k)
    where
      go : Dec (j' ≤ k) → (j' ≤ k) × (rank d k c + j ≡ rank d k c' + j')
      go (yes b) = (b, omega (arith, ranks, rank_low g j h kd, rank_low g' j' b kd))
      go (no b) = absurd (omega (arith, halves, half_low_is g j h, half_high g' j' (omega arith) l'))
