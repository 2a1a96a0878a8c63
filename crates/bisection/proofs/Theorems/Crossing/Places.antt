-- The places under a row: it takes the places 1..d to themselves and its way back undoes it, so the frame across has
-- every axis at one place again.
use Rattle.std.specs.Prelude.{◌≡◌, refl}
use Rattle.std.proofs.Common.{sym, ◌∙◌}
use Rattle.std.proofs.Math.Path.{ap}
use Prim.Native.Nat.{ℕ, suc, ◌-◌, ◌≤◌, ◌<◌}
use native.Mathlib.Omega.{arith}
use Rattle.std.proofs.Math.Decide.{dec_le, ℕ_discrete}
use Rattle.bisection.specs.Theorems.Crossing.Sums.{Perm}
use Rattle.bisection.specs.Theorems.Crossing.Frames.{Frame, GoodFrame}
use Rattle.bisection.specs.Theorems.Table.{Move, swap, nearer, farther, trade, left, right}
use Rattle.bisection.specs.Theorems.Crossing.Moves.{place, apply}
use Rattle.bisection.proofs.Theorems.Crossing.Moves.{places, at_place}
use Rattle.bisection.specs.Theorems.Crossing.Sound.{Allowed, a_swap, a_near, a_far, a_left, a_right, a_trade}
use Rattle.bisection.specs.Theorems.Crossing.Places.{cross, opp}

module _ {d k p : ℕ} (k1 : 1 ≤ k) (p1 : 1 ≤ p) (pd : p ≤ d) where
  pub place_range : {m : Move} → Allowed d k m → (1 ≤ place d k m p) × (place d k m p ≤ d)
  place_range (a_swap {i = i} i1 id) = go (ℕ_discrete p i) (ℕ_discrete p (suc i))
    where
      go : Dec (p ≡ i) → Dec (p ≡ suc i) → (1 ≤ place d k (swap i) p) × (place d k (swap i) p ≤ d)
      go (yes e) f = simp places (omega arith)
      go (no e) (yes f) = simp places (omega arith)
      go (no e) (no f) = simp places (omega arith)
  place_range a_near = simp places (p1, pd)
  place_range (a_far q) = simp places (p1, pd)
  place_range (a_left kd) = go (ℕ_discrete p 1) (dec_le p (suc k))
    where
      go : Dec (p ≡ 1) → Dec (p ≤ suc k) → (1 ≤ place d k left p) × (place d k left p ≤ d)
      go (yes e) f = simp places (omega arith)
      go (no e) (yes f) = let h : 2 ≤ p = omega arith in simp places (omega arith)
      go (no e) (no f) = let h : suc k < p = omega arith in simp places (omega arith)
  place_range (a_right kd) = go (ℕ_discrete p (suc k)) (dec_le p k)
    where
      go : Dec (p ≡ suc k) → Dec (p ≤ k) → (1 ≤ place d k right p) × (place d k right p ≤ d)
      go (yes e) f = simp places (omega arith)
      go (no e) (yes f) = simp places (omega arith)
      go (no e) (no f) = let h : suc k < p = omega arith in simp places (omega arith)
  place_range (a_trade kd) = go (ℕ_discrete p 1) (ℕ_discrete p (suc k))
    where
      go : Dec (p ≡ 1) → Dec (p ≡ suc k) → (1 ≤ place d k trade p) × (place d k trade p ≤ d)
      go (yes e) f = simp places (omega arith)
      go (no e) (yes f) = simp places (omega arith)
      go (no e) (no f) = simp places (omega arith)

  pub place_back : {m : Move} → Allowed d k m → place d k (opp m) (place d k m p) ≡ p
  unfolding opp
  place_back (a_swap {i = i} i1 id) = go (ℕ_discrete p i) (ℕ_discrete p (suc i))
    where
      go : Dec (p ≡ i) → Dec (p ≡ suc i) → place d k (swap i) (place d k (swap i) p) ≡ p
      go (yes e) f = simp places (sym e)
      go (no e) (yes f) = simp places (sym f)
      go (no e) (no f) = simp places
  place_back a_near = simp places
  place_back (a_far q) = simp places
  place_back (a_left kd) = go (ℕ_discrete p 1) (dec_le p (suc k))
    where
      go : Dec (p ≡ 1) → Dec (p ≤ suc k) → place d k right (place d k left p) ≡ p
      go (yes e) f = simp places (sym e)
      go (no e) (yes f) = let h : 2 ≤ p = omega arith in let l : p - 1 ≤ k = omega arith in simp places (omega arith)
      go (no e) (no f) = let h : suc k < p = omega arith in simp places
  place_back (a_right kd) = go (ℕ_discrete p (suc k)) (dec_le p k)
    where
      go : Dec (p ≡ suc k) → Dec (p ≤ k) → place d k left (place d k right p) ≡ p
      go (yes e) f = simp places (sym e)
      go (no e) (yes f) = let h : 2 ≤ suc p = omega arith in let l : suc p ≤ suc k = omega arith in simp places (omega arith)
      go (no e) (no f) = let h : suc k < p = omega arith in simp places
  place_back (a_trade kd) = go (ℕ_discrete p 1) (ℕ_discrete p (suc k))
    where
      go : Dec (p ≡ 1) → Dec (p ≡ suc k) → place d k trade (place d k trade p) ≡ p
      go (yes e) f = simp places (sym e)
      go (no e) (yes f) = simp places (sym f)
      go (no e) (no f) = simp places

pub allowed_opp : {d k : ℕ} {m : Move} → Allowed d k m → Allowed d k (opp m)
unfolding opp
allowed_opp (a_swap {i = i} i1 id) = a_swap {i = i} i1 id
allowed_opp a_near = a_near
allowed_opp (a_far q) = a_far q
allowed_opp (a_left q) = a_right q
allowed_opp (a_right q) = a_left q
allowed_opp (a_trade q) = a_trade q

pub opp_opp : (m : Move) → opp (opp m) ≡ m
unfolding opp
opp_opp (swap i) = refl
opp_opp nearer = refl
opp_opp farther = refl
opp_opp left = refl
opp_opp right = refl
opp_opp trade = refl

module _ {d k : ℕ} {c : Frame} (g : GoodFrame d k c) (k1 : 1 ≤ k) {m : Move} (ok : Allowed d k m) where
  pub cross_perm : Perm d (cross d k m c).at (cross d k m c).axis
  unfolding cross
  cross_perm = record {
    first = λ a l. rw (at_place) (place_range k1 (g.perm.first a l) (g.perm.last a l) ok).0;
    last = λ a l. rw (at_place) (place_range k1 (g.perm.first a l) (g.perm.last a l) ok).1;
    axis = λ t h l. g.perm.axis (place d k (opp m) t) (place_range k1 h l (allowed_opp ok)).0 (place_range k1 h l (allowed_opp ok)).1;
    back = λ t h l. back t h l;
    again = λ a l. rw (at_place) (ap c.axis (place_back k1 (g.perm.first a l) (g.perm.last a l) ok) ∙ g.perm.again a l);
  }
    where
      back : (t : ℕ) → 1 ≤ t → t ≤ d → (apply d k m (c.at (c.axis (place d k (opp m) t))) (c.near (c.axis (place d k (opp m) t))) (c.far (c.axis (place d k (opp m) t)))).at ≡ t
      back t h l = at_place d k m (c.at (c.axis (place d k (opp m) t))) (c.near (c.axis (place d k (opp m) t))) (c.far (c.axis (place d k (opp m) t)))
          ∙ ap (place d k m) (g.perm.back (place d k (opp m) t) (place_range k1 h l (allowed_opp ok)).0 (place_range k1 h l (allowed_opp ok)).1)
          ∙ rw (opp_opp m) at (place_back k1 h l (allowed_opp ok))
