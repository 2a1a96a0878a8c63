-- Signed steps along an axis, as the code holds them in an i32, and what a vertex has above its box's low side: the near side, or one step
-- from it.
use Rattle.std.specs.Prelude.{◌≡◌, refl, Bool, true, false, cond, not, ℕ, zero, suc, ◌+◌, ◌-◌, ◌/◌, ◌%◌, ◌^◌, ◌≤◌, ◌<◌, leb, ℤ, pos, neg_ℤ, ◌+ℤ◌, ◌-ℤ◌}
use Rattle.std.proofs.Common.{ap, ◌∙◌, arith, zero-add, le-ltb, le-leb, SFits, to_z, of_z}
use Rattle.std.proofs.Math.IntN.{+ℤ_idl}
use Rattle.std.proofs.lemmas.Bool.{lt-leb}
use Rattle.std.proofs.Math.Decide.{dec_le}
use mir.Syntax.{w32}
use Rattle.std.proofs.lemmas.Int.{to_z-of_z, to_z_pos}
use Rattle.bisection.specs.Theorems.Axis.{closed}

-- plus or minus so much
unfoldable pub signed_step : ℕ → Bool → ℤ
signed_step s m = cond m (neg_ℤ (pos s)) (pos s)

-- the step leads from x to a number of two bytes
pub record MovesTo (x : ℕ) (step : ℤ) : Type 0 where
  pub to : ℕ
  pub is : pos x +ℤ step ≡ pos to
  pub small : to < 2 ^ 16

-- above the low side of a box of side s: the near side up to the entry's place t, and after it one step away, which reaches r
unfoldable pub rise_by : ℕ → ℕ → Bool → ℕ → ℕ → ℕ
rise_by s r m t j = cond (leb j t) (cond m s 0) (cond m (s - r) r)

-- what the i32 arithmetic of a step computes
step_size : (s : ℕ) → s < 2 ^ 16 → to_z w32 s ≡ pos s
step_size s h = to_z_pos w32 s (omega arith)

down_fits : (s : ℕ) → s < 2 ^ 16 → SFits w32 (neg_ℤ (pos s))
down_fits zero h = record { sfits = omega arith }
down_fits (suc s) h = record { sfits = omega arith }

-- a step as an i32 holds it
step_held : (s : ℕ) (m : Bool) → s < 2 ^ 16 → (step : ℤ) → step ≡ signed_step s m → to_z w32 (of_z w32 step) ≡ signed_step s m
unfolding signed_step
step_held s true h step e = rw e (to_z-of_z w32 (neg_ℤ (pos s)) (down_fits s h))
step_held s false h step e = rw e (step_size s h)

-- a whole number less a smaller one
pos_sub : (x s : ℕ) → s ≤ x → pos x -ℤ pos s ≡ pos (x - s)
pos_sub x zero h = ap pos (omega arith)
pos_sub x (suc s) h = simp le-ltb

pos_same : {a b : ℕ} → pos a ≡ pos b → a ≡ b
pos_same e = cc

-- one step from the near side
step_from : (s r : ℕ) (m : Bool) → r ≤ s → pos (cond m s 0) +ℤ signed_step r m ≡ pos (cond m (s - r) r)
unfolding signed_step
step_from s r true h = pos_sub s r h
step_from s r false h = +ℤ_idl (pos r)

module _ (s r : ℕ) (m : Bool) (h : r ≤ s) (small : s < 2 ^ 16) {x : ℕ} (e : x ≡ cond m s 0) {step : ℤ} (f : step ≡ signed_step r m) where
  to_step : pos x +ℤ to_z w32 (of_z w32 step) ≡ pos (cond m (s - r) r)
  to_step = rw (e, step_held r m (omega arith) step f) (step_from s r m h)

  few : (m : Bool) → cond m (s - r) r ≤ s
  few true = omega arith
  few false = omega arith

  pub step_moves : MovesTo x (to_z w32 (of_z w32 step))
  step_moves = record { to = cond m (s - r) r; is = to_step; small = omega (arith, few m) }

  pub step_lands : {y : ℕ} → pos y ≡ pos x +ℤ to_z w32 (of_z w32 step) → y ≡ cond m (s - r) r
  step_lands g = pos_same (g ∙ to_step)

-- as the code picks it
pub rise_picked : (s r : ℕ) (m : Bool) (t j : ℕ) {far back x : ℕ} → far ≡ r → back ≡ s - r → x ≡ cond m (cond (leb j t) s back) (cond (leb j t) 0 far) → x ≡ rise_by s r m t j
unfolding rise_by
rise_picked s r m t j e f g = rw (g, e, f) (go m (leb j t))
  where
    go : (m b : Bool) → cond m (cond b s (s - r)) (cond b 0 r) ≡ cond b (cond m s 0) (cond m (s - r) r)
    go true true = refl
    go true false = refl
    go false true = refl
    go false false = refl

-- the closed form above a box's low side
pub closed_above : (lo s : ℕ) (m : Bool) (i k j : ℕ) → closed lo s m i k j ≡ lo + closed 0 s m i k j
unfolding closed
closed_above lo s m i k j = go m (leb j i) (leb j k)
  where
    go : (m b c : Bool) → cond b (cond m (lo + s) lo) (cond c (cond (not m) (lo + s) lo) (lo + s / 2)) ≡ lo + cond b (cond m (0 + s) 0) (cond c (cond (not m) (0 + s) 0) (0 + s / 2))
    go true true c = omega arith
    go false true c = omega arith
    go true false true = omega arith
    go false false true = omega arith
    go m false false = omega arith

pub closed_most : (s : ℕ) (m : Bool) (i k j : ℕ) → closed 0 s m i k j ≤ s
unfolding closed
closed_most s m i k j = go m (leb j i) (leb j k)
  where
    go : (m b c : Bool) → cond b (cond m (0 + s) 0) (cond c (cond (not m) (0 + s) 0) (0 + s / 2)) ≤ s
    go true true c = omega arith
    go false true c = omega arith
    go true false true = omega arith
    go false false true = omega arith
    go m false false = omega arith

-- it is the closed form, where the middle is whole
pub rise_closed : (s k : ℕ) (m : Bool) (t j : ℕ) {r : ℕ} → r ≡ cond (leb j k) s (s / 2) → (k < j → s % 2 ≡ 0) → rise_by s r m t j ≡ closed 0 s m t k j
unfolding rise_by closed
rise_closed s k m t j e even = rw e (go (dec_le j k))
  where
    near : (b : Bool) (x y : ℕ) → x ≡ y → cond b (cond m s 0) x ≡ cond b (cond m (0 + s) 0) y
    near b x y f = rw (f, zero-add s) refl

    far : (m : Bool) → cond m (s - s) s ≡ cond (not m) (0 + s) 0
    far true = omega arith
    far false = omega arith

    middle : (m : Bool) → s % 2 ≡ 0 → cond m (s - s / 2) (s / 2) ≡ 0 + s / 2
    middle true f = omega arith
    middle false f = omega arith

    go : Dec (j ≤ k) → cond (leb j t) (cond m s 0) (cond m (s - cond (leb j k) s (s / 2)) (cond (leb j k) s (s / 2)))
        ≡ cond (leb j t) (cond m (0 + s) 0) (cond (leb j k) (cond (not m) (0 + s) 0) (0 + s / 2))
    go (yes l) = rw (le-leb j k l) (near (leb j t) _ _ (far m))
    go (no l) = let u : k < j = omega arith in rw (lt-leb j k u) (near (leb j t) _ _ (middle m (even u)))

pub reach_most : (s k j : ℕ) {r : ℕ} → r ≡ cond (leb j k) s (s / 2) → r ≤ s
reach_most s k j e = rw e (go (leb j k))
  where
    go : (b : Bool) → cond b s (s / 2) ≤ s
    go true = omega arith
    go false = omega arith
