-- A row of the rule table on one axis: where its place goes, whether its entry is negated, what becomes of its near
-- and far side; and which row a facet takes.
use Rattle.std.specs.Prelude.{◌≡◌, Bool, true, false, ◌≢◌}
use Rattle.std.proofs.Math.Path.{refl}
use Rattle.std.proofs.Common.{sym, subst}
use Prim.Native.Nat.{ℕ, suc, ◌-◌, ◌*◌, ◌≤◌, ◌<◌}
use native.Mathlib.Omega.{arith}
use Rattle.std.proofs.Math.Decide.{ℕ_discrete}
use borrow.Author.Tests.{le-leb, lt-leb, eq-eqb, ne_eqb}
use Rattle.bisection.specs.Theorems.Table.{Move, swap, nearer, farther, left, right, trade, move}
use Rattle.bisection.specs.Theorems.Crossing.Moves.{Moved, apply, is_edge, is_far, is_left, is_near, is_right, is_swap, is_trade, negates, place, sides}

pub at_place : (d k : ℕ) (m : Move) (p x y : ℕ) → (apply d k m p x y).at ≡ place d k m p
unfolding apply
at_place d k m p x y = refl

-- the rules of place, and of apply
module _ (d k p : ℕ) where
  pub p_swap_low : (i : ℕ) → p ≡ i → place d k (swap i) p ≡ suc i
  unfolding place
  p_swap_low i e = simp eq-eqb

  pub p_swap_high : (i : ℕ) → p ≡ suc i → place d k (swap i) p ≡ i
  unfolding place
  p_swap_high i e = let n : p ≢ i = omega arith in simp (ne_eqb, eq-eqb)

  pub p_swap_other : (i : ℕ) → p ≢ i → p ≢ suc i → place d k (swap i) p ≡ p
  unfolding place
  p_swap_other i e n = simp (ne_eqb)

  pub p_nearer : place d k nearer p ≡ p
  unfolding place
  p_nearer = refl

  pub p_farther : place d k farther p ≡ p
  unfolding place
  p_farther = refl

  pub p_left_first : p ≡ 1 → place d k left p ≡ suc k
  unfolding place
  p_left_first e = simp eq-eqb

  pub p_left_in : 2 ≤ p → p ≤ suc k → place d k left p ≡ p - 1
  unfolding place
  p_left_in h l = let n : p ≢ 1 = omega arith in simp (ne_eqb, le-leb)

  pub p_left_past : suc k < p → place d k left p ≡ p
  unfolding place
  p_left_past h = let n : p ≢ 1 = omega arith in simp (ne_eqb, lt-leb)

  pub p_right_last : p ≡ suc k → place d k right p ≡ 1
  unfolding place
  p_right_last e = simp eq-eqb

  pub p_right_in : p ≤ k → place d k right p ≡ suc p
  unfolding place
  p_right_in l = let n : p ≢ suc k = omega arith in simp (ne_eqb, le-leb)

  pub p_right_past : suc k < p → place d k right p ≡ p
  unfolding place
  p_right_past h = let n : p ≢ suc k = omega arith in let l : k < p = omega arith in simp (ne_eqb, lt-leb)

  pub p_trade_first : p ≡ 1 → place d k trade p ≡ suc k
  unfolding place
  p_trade_first e = simp eq-eqb

  pub p_trade_last : 1 ≤ k → p ≡ suc k → place d k trade p ≡ 1
  unfolding place
  p_trade_last k1 e = let n : p ≢ 1 = omega arith in simp (ne_eqb, eq-eqb)

  pub p_trade_other : p ≢ 1 → p ≢ suc k → place d k trade p ≡ p
  unfolding place
  p_trade_other n e = simp ne_eqb

pub ruleset places = (p_swap_low, p_swap_high, p_swap_other, p_nearer, p_farther, p_left_first, p_left_in, p_left_past, p_right_last, p_right_in, p_right_past, p_trade_first, p_trade_last, p_trade_other)

module _ (d k p x y : ℕ) where
  pub swap_low : (i : ℕ) → p ≡ i → apply d k (swap i) p x y ≡ record { at = suc i; near = x; far = y }
  unfolding apply place sides
  swap_low i e = simp eq-eqb

  pub swap_high : (i : ℕ) → p ≡ suc i → apply d k (swap i) p x y ≡ record { at = i; near = x; far = y }
  unfolding apply place sides
  swap_high i e = let n : p ≢ i = omega arith in simp (ne_eqb, eq-eqb)

  pub swap_other : (i : ℕ) → p ≢ i → p ≢ suc i → apply d k (swap i) p x y ≡ record { at = p; near = x; far = y }
  unfolding apply place sides
  swap_other i e n = simp (ne_eqb)

  pub nearer_at : p ≡ d → apply d k nearer p x y ≡ record { at = p; near = x; far = 2 * x - y }
  unfolding apply place sides negates
  nearer_at e = simp eq-eqb

  pub nearer_other : p ≢ d → apply d k nearer p x y ≡ record { at = p; near = x; far = y }
  unfolding apply place sides negates
  nearer_other e = simp ne_eqb

  pub farther_at : p ≡ 1 → apply d k farther p x y ≡ record { at = p; near = 2 * y - x; far = y }
  unfolding apply place sides negates
  farther_at e = simp eq-eqb

  pub farther_other : p ≢ 1 → apply d k farther p x y ≡ record { at = p; near = x; far = y }
  unfolding apply place sides negates
  farther_other e = simp ne_eqb

  pub left_first : p ≡ 1 → apply d k left p x y ≡ record { at = suc k; near = y; far = x }
  unfolding apply place sides negates
  left_first e = simp eq-eqb

  pub left_in : 2 ≤ p → p ≤ suc k → apply d k left p x y ≡ record { at = p - 1; near = x; far = y }
  unfolding apply place sides negates
  left_in h l = let n : p ≢ 1 = omega arith in simp (ne_eqb, le-leb)

  pub left_past : suc k < p → apply d k left p x y ≡ record { at = p; near = x; far = y }
  unfolding apply place sides negates
  left_past h = let n : p ≢ 1 = omega arith in simp (ne_eqb, lt-leb)

  pub right_last : p ≡ suc k → apply d k right p x y ≡ record { at = 1; near = y; far = x }
  unfolding apply place sides negates
  right_last e = simp eq-eqb

  pub right_in : p ≤ k → apply d k right p x y ≡ record { at = suc p; near = x; far = y }
  unfolding apply place sides negates
  right_in l = let n : p ≢ suc k = omega arith in simp (ne_eqb, le-leb)

  pub right_past : suc k < p → apply d k right p x y ≡ record { at = p; near = x; far = y }
  unfolding apply place sides negates
  right_past h = let n : p ≢ suc k = omega arith in let l : k < p = omega arith in simp (ne_eqb, lt-leb)

  pub trade_first : p ≡ 1 → apply d k trade p x y ≡ record { at = suc k; near = y; far = x }
  unfolding apply place sides negates
  trade_first e = simp eq-eqb

  pub trade_last : 1 ≤ k → p ≡ suc k → apply d k trade p x y ≡ record { at = 1; near = y; far = x }
  unfolding apply place sides negates
  trade_last k1 e = let n : p ≢ 1 = omega arith in simp (ne_eqb, eq-eqb)

  pub trade_other : p ≢ 1 → p ≢ suc k → apply d k trade p x y ≡ record { at = p; near = x; far = y }
  unfolding apply place sides negates
  trade_other n e = simp ne_eqb

pub ruleset applies = (swap_low, swap_high, swap_other, nearer_at, nearer_other, farther_at, farther_other, left_first, left_in, left_past, right_last, right_in, right_past, trade_first, trade_last, trade_other)

-- the rows of the table
module _ (d k i : ℕ) where
  move_near : (b : Bool) → i ≡ d → move d k i b ≡ nearer
  unfolding move
  move_near b e = simp eq-eqb

  move_far : (b : Bool) → i ≢ d → i ≡ 0 → k ≡ d → move d k i b ≡ farther
  unfolding move
  move_far b n e q = simp (ne_eqb, eq-eqb)

  pub move_left : i ≢ d → i ≡ 0 → k ≢ d → move d k i true ≡ left
  unfolding move
  move_left n e q = simp (ne_eqb, eq-eqb)

  move_trade : i ≢ d → i ≡ 0 → k ≢ d → move d k i false ≡ trade
  unfolding move
  move_trade n e q = simp (ne_eqb, eq-eqb)

  move_edge : i ≢ d → i ≢ 0 → i ≡ k → move d k i true ≡ swap k
  unfolding move
  move_edge n e q = simp (ne_eqb, eq-eqb)

  pub move_right : i ≢ d → i ≢ 0 → i ≡ k → move d k i false ≡ right
  unfolding move
  move_right n e q = simp (ne_eqb, eq-eqb)

  move_swap : (b : Bool) → i ≢ d → i ≢ 0 → i ≢ k → move d k i b ≡ swap i
  unfolding move
  move_swap b n e q = simp (ne_eqb)

pub view : (d k i : ℕ) (b : Bool) → Moved d k i b (move d k i b)
view d k i b = go b (ℕ_discrete i d) (ℕ_discrete i 0) (ℕ_discrete k d) (ℕ_discrete i k)
  where
    go : (b : Bool) → Dec (i ≡ d) → Dec (i ≡ 0) → Dec (k ≡ d) → Dec (i ≡ k) → Moved d k i b (move d k i b)
    go b (yes e) z q r = subst (Moved d k i b) (sym (move_near d k i b e)) (is_near e)
    go b (no e) (yes z) (yes q) r = subst (Moved d k i b) (sym (move_far d k i b e z q)) (is_far e z q)
    go true (no e) (yes z) (no q) r = subst (Moved d k i true) (sym (move_left d k i e z q)) (is_left e z q refl)
    go false (no e) (yes z) (no q) r = subst (Moved d k i false) (sym (move_trade d k i e z q)) (is_trade e z q refl)
    go true (no e) (no z) q (yes r) = subst (Moved d k i true) (sym (move_edge d k i e z r)) (is_edge e z r refl)
    go false (no e) (no z) q (yes r) = subst (Moved d k i false) (sym (move_right d k i e z r)) (is_right e z r refl)
    go b (no e) (no z) q (no r) = subst (Moved d k i b) (sym (move_swap d k i b e z r)) (is_swap e z r)
