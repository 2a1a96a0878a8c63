-- One axis of a cell at a time. The closed form of the vertices' coordinates on the axis of entry i (i from 0):
-- the box's near side up to vertex i, then its far side up to vertex k, then its middle. A step of the
-- bisection keeps that form, with the entry where the step rule puts it.
use Rattle.std.specs.Prelude.{◌≡◌, refl, Bool, true, false, not, ℕ, suc, ◌+◌, ◌/◌, ◌%◌, ◌≤◌, ◌<◌}
use native.Mathlib.Omega.{arith}
use Rattle.std.proofs.Math.Decide.{dec_lt, dec_le, ℕ_discrete}
use borrow.Author.Tests.{lt-ltb, le-ltb, le-leb, lt-leb, eq-eqb, ne_eqb}
use Rattle.bisection.specs.Theorems.Axis.{Order, closed, far, half_low, mid, near, over, row0, row1, same, under}

module _ (lo s : ℕ) (m : Bool) (i k j : ℕ) where
  pub closed_near : j ≤ i → closed lo s m i k j ≡ near lo s m
  unfolding closed
  closed_near h = simp (le-leb j i h)

  pub closed_far : i < j → j ≤ k → closed lo s m i k j ≡ far lo s m
  unfolding closed
  closed_far h l = simp (lt-leb j i h, le-leb j k l)

  pub closed_middle : i < j → k < j → closed lo s m i k j ≡ lo + s / 2
  unfolding closed
  closed_middle h l = simp (lt-leb j i h, lt-leb j k l)

module _ (k : ℕ) (r : ℕ → ℕ) (j : ℕ) where
  pub row0_at : j ≡ k → row0 k r j ≡ mid (r 0) (r k)
  unfolding row0
  row0_at e = simp eq-eqb

  pub row0_other : (j ≡ k → ⊥) → row0 k r j ≡ r j
  unfolding row0
  row0_other e = simp ne_eqb

  pub row1_before : j < k → row1 k r j ≡ r (suc j)
  unfolding row1
  row1_before q = simp lt-ltb

  pub row1_at : j ≡ k → row1 k r j ≡ mid (r 0) (r k)
  unfolding row1
  row1_at q = let h : k ≤ j = omega arith in simp (le-ltb, eq-eqb)

  pub row1_past : k < j → row1 k r j ≡ r j
  unfolding row1
  row1_past q = let h : k ≤ j = omega arith in let e : j ≡ k → ⊥ = omega arith in simp (le-ltb, ne_eqb)

mid_sides : (lo s : ℕ) (m : Bool) → mid (near lo s m) (far lo s m) ≡ lo + s / 2
mid_sides lo s true = omega arith
mid_sides lo s false = omega arith

mid_same : (x : ℕ) → mid x x ≡ x
mid_same x = omega arith

ruleset rules = (row0_at, row0_other, row1_before, row1_at, row1_past, closed_near, closed_far, closed_middle, mid_sides, mid_same)

pub order : (a b : ℕ) → Order a b
order a b = go (dec_lt a b) (ℕ_discrete a b)
  where
    go : Dec (a < b) → Dec (a ≡ b) → Order a b
    go (yes h) e = under h
    go (no h) (yes e) = same e
    go (no h) (no e) = over (omega arith)

-- n + 1 is the cell's k, and n the child's
module _ (lo s : ℕ) (m : Bool) (n d : ℕ) (nd : suc n ≤ d) (r : ℕ → ℕ) where
  -- child 0: every entry keeps its place
  pub child0_closed : (i : ℕ) → ((j : ℕ) → j ≤ d → r j ≡ closed lo s m i (suc n) j) → (j : ℕ) → j ≤ d → row0 (suc n) r j ≡ closed lo s m i n j
  child0_closed i is j jd = go (ℕ_discrete j (suc n)) (dec_le j i) (dec_le j n)
    where
      z : 0 ≤ d
      z = omega arith

      go : Dec (j ≡ suc n) → Dec (j ≤ i) → Dec (j ≤ n) → row0 (suc n) r j ≡ closed lo s m i n j
      go (yes e) (yes a) c =
          let h0 : 0 ≤ i = omega arith in
          let h1 : suc n ≤ i = omega arith in
          simp (rules, is, nd, z)
      go (yes e) (no a) c =
          let h0 : 0 ≤ i = omega arith in
          let h1 : i < suc n = omega arith in
          let h2 : suc n ≤ suc n = omega arith in
          let h3 : i < j = omega arith in
          let h4 : n < j = omega arith in
          simp (rules, is, nd, z)
      go (no e) (yes a) c = simp (rules, is)
      go (no e) (no a) (yes c) =
          let h1 : i < j = omega arith in
          let h2 : j ≤ suc n = omega arith in
          simp (rules, is)
      go (no e) (no a) (no c) =
          let h1 : i < j = omega arith in
          let h2 : suc n < j = omega arith in
          let h3 : n < j = omega arith in
          simp (rules, is)

  -- child 1: an entry after the first moves one place forward
  pub child1_moved : (i : ℕ) → i < n → ((j : ℕ) → j ≤ d → r j ≡ closed lo s m (suc i) (suc n) j) → (j : ℕ) → j ≤ d → row1 (suc n) r j ≡ closed lo s m i n j
  child1_moved i l is j jd = go (order j (suc n)) (dec_le j i)
    where
      z : 0 ≤ d
      z = omega arith

      go : Order j (suc n) → Dec (j ≤ i) → row1 (suc n) r j ≡ closed lo s m i n j
      go (under a) (yes c) = let h : suc j ≤ suc i = omega arith in let q : suc j ≤ d = omega arith in simp (rules, is)
      go (under a) (no c) = let h : suc i < suc j = omega arith in let h1 : suc j ≤ suc n = omega arith in let h2 : i < j = omega arith in let h3 : j ≤ n = omega arith in let q : suc j ≤ d = omega arith in simp (rules, is)
      go (same a) c =
          let h0 : 0 ≤ suc i = omega arith in
          let h1 : suc i < suc n = omega arith in
          let h2 : suc n ≤ suc n = omega arith in
          let h3 : i < j = omega arith in
          let h4 : n < j = omega arith in
          simp (rules, is, nd, z)
      go (over a) c = let h : suc i < j = omega arith in let h1 : i < j = omega arith in let h2 : n < j = omega arith in simp (rules, is)

  -- the first entry goes to place k, negated
  pub child1_first : ((j : ℕ) → j ≤ d → r j ≡ closed lo s m 0 (suc n) j) → (j : ℕ) → j ≤ d → row1 (suc n) r j ≡ closed lo s (not m) n n j
  child1_first is j jd = go (order j (suc n))
    where
      z : 0 ≤ d
      z = omega arith

      go : Order j (suc n) → row1 (suc n) r j ≡ closed lo s (not m) n n j
      go (under a) = let h : 0 < suc j = omega arith in let h1 : suc j ≤ suc n = omega arith in let h2 : j ≤ n = omega arith in let q : suc j ≤ d = omega arith in simp (rules, is)
      go (same a) =
          let h0 : 0 ≤ 0 = omega arith in
          let h1 : 0 < suc n = omega arith in
          let h2 : suc n ≤ suc n = omega arith in
          let h4 : n < j = omega arith in
          simp (rules, is, nd, z)
      go (over a) = let h : 0 < j = omega arith in let h1 : n < j = omega arith in simp (rules, is)

  -- an entry past k keeps its place
  pub child1_past : (i : ℕ) → n < i → ((j : ℕ) → j ≤ d → r j ≡ closed lo s m i (suc n) j) → (j : ℕ) → j ≤ d → row1 (suc n) r j ≡ closed lo s m i n j
  child1_past i l is j jd = go (order j (suc n)) (dec_le j i)
    where
      z : 0 ≤ d
      z = omega arith

      go : Order j (suc n) → Dec (j ≤ i) → row1 (suc n) r j ≡ closed lo s m i n j
      go (under a) c = let h : suc j ≤ i = omega arith in let h1 : j ≤ i = omega arith in let q : suc j ≤ d = omega arith in simp (rules, is)
      go (same a) c = let h0 : 0 ≤ i = omega arith in let h1 : suc n ≤ i = omega arith in let h2 : j ≤ i = omega arith in simp (rules, is, nd, z)
      go (over a) (yes c) = simp (rules, is)
      go (over a) (no c) = let h : i < j = omega arith in let h1 : n < j = omega arith in simp (rules, is)

near_same : (lo s : ℕ) (m : Bool) → s % 2 ≡ 0 → near lo s m ≡ near (half_low lo s m) (s / 2) m
near_same lo s true e = omega arith
near_same lo s false e = refl

far_middle : (lo s : ℕ) (m : Bool) → lo + s / 2 ≡ far (half_low lo s m) (s / 2) m
far_middle lo s true = refl
far_middle lo s false = refl

pub level_end : (lo s : ℕ) (m : Bool) (i d j : ℕ) → s % 2 ≡ 0 → j ≤ d → closed lo s m i 0 j ≡ closed (half_low lo s m) (s / 2) m i d j
level_end lo s m i d j ev jd = go (dec_le j i)
  where
    go : Dec (j ≤ i) → closed lo s m i 0 j ≡ closed (half_low lo s m) (s / 2) m i d j
    go (yes a) = simp closed_near (near_same lo s m ev)
    go (no a) = let h1 : i < j = omega arith in let h2 : 0 < j = omega arith in simp (closed_far, closed_middle) (far_middle lo s m)

-- near and far together are even where the side is
pub sides_even : (lo s : ℕ) (m : Bool) → s % 2 ≡ 0 → (near lo s m + far lo s m) % 2 ≡ 0
sides_even lo s true e = omega arith
sides_even lo s false e = omega arith
