-- The frame across has the facet's vertices, in their order. Its one other vertex is new: a frame is known by its
-- vertices, and the two frames differ. And the new place is an end of the split edge just where the old one is.
use Rattle.std.specs.Prelude.{◌≡◌, refl, Bool, ◌≢◌}
use Rattle.std.proofs.Common.{sym, subst, inl, inr}
use Prim.Native.Nat.{ℕ, suc, ◌-◌, ◌*◌, ◌≤◌, ◌<◌}
use native.Mathlib.Omega.{arith}
use Rattle.std.proofs.Math.Decide.{dec_lt, ℕ_discrete}
use Rattle.bisection.specs.Theorems.Crossing.Rows.{row}
use Rattle.bisection.specs.Theorems.Crossing.Frames.{Frame, vert, GoodFrame, Meets}
use Rattle.bisection.specs.Theorems.Crossing.Shift.{Among, HasFacet, Shift, level, slid_left, slid_right}
use Rattle.bisection.proofs.Theorems.Crossing.Shift.{shift}
use Rattle.bisection.specs.Theorems.Crossing.Axes.{Fits}
use Rattle.bisection.proofs.Theorems.Crossing.Axes.{near_kept, kept_past, far_kept}
use Rattle.bisection.specs.Theorems.Table.{Move, swap, nearer, farther, trade, left, right, new_at}
use Rattle.bisection.specs.Theorems.Crossing.Moves.{apply, own, Lands, Moved, is_near, is_far, is_left, is_trade, is_edge, is_right, is_swap}
use Rattle.bisection.proofs.Theorems.Crossing.Moves.{applies}
use Rattle.bisection.specs.Theorems.Crossing.Level.{SameAt, LandsAt}
use Rattle.bisection.proofs.Theorems.Crossing.Level.{fits}
use Rattle.bisection.specs.Theorems.Crossing.Skips.{skip, Skipped}
use Rattle.bisection.proofs.Theorems.Crossing.Skips.{skip_before, skip_past, skip_other, skip_in, skipped}
use Rattle.bisection.specs.Theorems.Crossing.Sound.{Allowed, a_swap, a_near, a_far, a_left, a_right, a_trade, Goes, g_swap, g_near, g_far, g_trade, g_left, g_left_on, g_right, g_right_on}
use Rattle.bisection.proofs.Theorems.Crossing.Sound.{allowed, axis_sound}
use Rattle.bisection.specs.Theorems.Crossing.Shared.{Ends}

-- a cell is known by its vertices
module _ {d k : ℕ} {c c' : Frame} (k1 : 1 ≤ k) (kd : k ≤ d) (g : GoodFrame d k c) (g' : GoodFrame d k c') (all : (j : ℕ) → j ≤ d → Among d k c j c') where
  pub determined : (a : ℕ) → a < d → SameAt c c' a
  determined a l = go (shift g g' k1 kd (λ j h n. all j h))
    where
      go : Shift d k (suc d) c c' → SameAt c c' a
      go (slid_left e t) = absurd (omega arith)
      go (slid_right e t) = absurd (omega arith)
      go (level w) = record { at = kept_past o o' d1 agree (omega arith); near = near_kept o o' d1 agree; far = far_kept o o' d1 agree d (omega arith) (omega arith) o.last o'.last }
        where
          o : Fits d k (c.at a) (c.near a) (c.far a)
          o = fits g a l

          o' : Fits d k (c'.at a) (c'.near a) (c'.far a)
          o' = fits g' a l

          d1 : 1 ≤ suc d
          d1 = omega arith

          agree : (j : ℕ) → j ≤ d → j ≢ suc d → row k (c.at a) (c.near a) (c.far a) j ≡ row k (c'.at a) (c'.near a) (c'.far a) j
          agree j h n = w j h n a l

-- the vertices but i go to those but the new one, in order
module _ {d k i : ℕ} {b : Bool} (k1 : 1 ≤ k) (kd : k ≤ d) (t : ℕ) (l : t < d) where
  pub in_order : {m : Move} → Moved d k i b m → Goes d k m (skip i t) (skip (new_at d k m) t)
  unfolding new_at
  in_order (is_near e) = rw e (g_near {j = skip d t} (skip_other d t))
  in_order (is_far e z q) = rw z (g_far {j = skip 0 t} (skip_other 0 t))
  in_order (is_trade e z q r) = rw z (g_trade {j = skip 0 t} (skip_other 0 t))
  in_order (is_edge e z q r) = rw q (g_swap {j = skip k t} (skip_other k t))
  in_order (is_swap e z q) = g_swap {j = skip i t} (skip_other i t)
  in_order (is_left e z q r) = rw (z, skip_past 0 t (omega arith)) (go (dec_lt t k))
    where
      go : Dec (t < k) → Goes d k left (suc t) (skip k t)
      go (yes h) = rw (skip_before k t h) (g_left {j = t} h)
      go (no h) = let q : k ≤ t = omega arith in rw (skip_past k t q) (g_left_on {j = suc t} (omega arith))
  in_order (is_right e z q r) = rw (q, skip_past 0 t (omega arith)) (go (dec_lt t k))
    where
      go : Dec (t < k) → Goes d k right (skip k t) (suc t)
      go (yes h) = rw (skip_before k t h) (g_right {j = t} h)
      go (no h) = let q : k ≤ t = omega arith in rw (skip_past k t q) (g_right_on {j = suc t} (omega arith))

pub new_within : {d k : ℕ} {m : Move} → k ≤ d → Allowed d k m → new_at d k m ≤ d
unfolding new_at
new_within kd (a_swap i1 id) = omega arith
new_within kd a_near = omega arith
new_within kd (a_far q) = omega arith
new_within kd (a_left q) = omega arith
new_within kd (a_right q) = omega arith
new_within kd (a_trade q) = omega arith

module _ {d k i : ℕ} {c c' : Frame} (k1 : 1 ≤ k) (kd : k ≤ d) (il : i ≤ d) (g : GoodFrame d k c) (g' : GoodFrame d k c') {m : Move} (v : Moved d k i (own k c) m) (h : (a : ℕ) → a < d → LandsAt d k m c c' a) where
  meets : (j j' : ℕ) → Goes d k m j j' → j ≤ d → Meets d k c j c' j'
  meets j j' w l a la = rw ((h a la).at, (h a la).near, (h a la).far) (axis_sound (fits g a la) k1 (allowed k1 kd il v) w l)

  pub in_order_meets : (t : ℕ) → t < d → Meets d k c (skip i t) c' (skip (new_at d k m) t)
  in_order_meets t l = meets (skip i t) (skip (new_at d k m) t) (in_order k1 kd t l v) (skip_in i t l)

  -- the second frame's vertices but the new one are vertices of the first
  has_back : HasFacet d k (new_at d k m) c' c
  has_back u l n =
      let f : Skipped d (new_at d k m) u = skipped (new_at d k m) u (new_within kd (allowed k1 kd il v)) l n in
      record {
        place = skip i f.from;
        within = skip_in i f.from f.below;
        meets = λ a la. sym (subst (λ (w : ℕ). vert k c (skip i f.from) a ≡ vert k c' w a) f.is (in_order_meets f.from f.below a la));
      }

  -- the row moves an axis to another place, or to another side
  differs : ((a : ℕ) → a < d → SameAt c' c a) → ⊥
  differs s = go (allowed k1 kd il v) h
    where
      place : (t q x y : ℕ) → 1 ≤ t → t ≤ d → Lands (record { at = q; near = x; far = y }) (c'.at (c.axis t)) (c'.near (c.axis t)) (c'.far (c.axis t)) → q ≡ t
      place t q x y h l w = omega (arith, w.at, (s (c.axis t) (g.perm.axis t h l)).at, g.perm.back t h l)

      on : (m : Move) → ((a : ℕ) → a < d → LandsAt d k m c c' a) → (t : ℕ) → 1 ≤ t → t ≤ d → Lands (apply d k m t (c.near (c.axis t)) (c.far (c.axis t))) (c'.at (c.axis t)) (c'.near (c.axis t)) (c'.far (c.axis t))
      on m w t h l = rw (g.perm.back t h l) at (w (c.axis t) (g.perm.axis t h l))

      go : {m : Move} → Allowed d k m → ((a : ℕ) → a < d → LandsAt d k m c c' a) → ⊥
      go (a_swap {i = i} i1 id) h = let l : i ≤ d = omega arith in omega (arith, place i (suc i) (c.near (c.axis i)) (c.far (c.axis i)) i1 l (simp applies at (on (swap i) h i i1 l)))
      go a_near h =
          let h1 : 1 ≤ d = omega arith in let l : d ≤ d = omega arith in
          let w : Lands (record { at = d; near = c.near (c.axis d); far = 2 * c.near (c.axis d) - c.far (c.axis d) }) (c'.at (c.axis d)) (c'.near (c.axis d)) (c'.far (c.axis d)) = simp applies at (on nearer h d h1 l) in
          omega (arith, w.far, (s (c.axis d) (g.perm.axis d h1 l)).far, g.sides (c.axis d) (g.perm.axis d h1 l), g'.sides (c.axis d) (g.perm.axis d h1 l), w.near)
      go (a_far q) h =
          let h1 : 1 ≤ 1 = omega arith in let l : 1 ≤ d = omega arith in
          let w : Lands (record { at = 1; near = 2 * c.far (c.axis 1) - c.near (c.axis 1); far = c.far (c.axis 1) }) (c'.at (c.axis 1)) (c'.near (c.axis 1)) (c'.far (c.axis 1)) = simp applies at (on farther h 1 h1 l) in
          omega (arith, w.near, (s (c.axis 1) (g.perm.axis 1 h1 l)).near, g.sides (c.axis 1) (g.perm.axis 1 h1 l), g'.sides (c.axis 1) (g.perm.axis 1 h1 l), w.far)
      go (a_left q) h = let h1 : 1 ≤ 1 = omega arith in let l : 1 ≤ d = omega arith in omega (arith, place 1 (suc k) (c.far (c.axis 1)) (c.near (c.axis 1)) h1 l (simp applies at (on left h 1 h1 l)))
      go (a_right q) h = let h1 : 1 ≤ suc k = omega arith in omega (arith, place (suc k) 1 (c.far (c.axis (suc k))) (c.near (c.axis (suc k))) h1 q (simp applies at (on right h (suc k) h1 q)))
      go (a_trade q) h = let h1 : 1 ≤ 1 = omega arith in let l : 1 ≤ d = omega arith in omega (arith, place 1 (suc k) (c.far (c.axis 1)) (c.near (c.axis 1)) h1 l (simp applies at (on trade h 1 h1 l)))

  -- otherwise the first frame would have all vertices of the second
  pub new_not : Among d k c' (new_at d k m) c → ⊥
  new_not w = differs (determined k1 kd g' g all)
    where
      all : (j : ℕ) → j ≤ d → Among d k c' j c
      all j l = go (ℕ_discrete j (new_at d k m))
        where
          go : Dec (j ≡ new_at d k m) → Among d k c' j c
          go (yes e) = subst (λ (t : ℕ). Among d k c' t c) (sym e) w
          go (no e) = has_back j l e

pub ends : {d k i : ℕ} {b : Bool} {m : Move} → Moved d k i b m → Ends k i (new_at d k m)
unfolding new_at
ends {d} {k} {i} (is_near e) = rw e (record { there = λ h. h; back = λ h. h; inner = λ n h. refl })
ends (is_far e z q) = rw z (record { there = λ h. h; back = λ h. h; inner = λ n h. refl })
ends (is_trade e z q r) = rw z (record { there = λ h. h; back = λ h. h; inner = λ n h. refl })
ends (is_edge e z q r) = rw q (record { there = λ h. h; back = λ h. h; inner = λ n h. refl })
ends (is_swap e z q) = record { there = λ h. h; back = λ h. h; inner = λ n h. refl }
ends (is_left e z q r) = record { there = λ h. inr refl; back = λ h. inl z; inner = λ n h. absurd (n z) }
ends (is_right e z q r) = record { there = λ h. inl refl; back = λ h. inr q; inner = λ n h. absurd (h q) }
