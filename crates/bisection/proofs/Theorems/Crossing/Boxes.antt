-- The box of a name on one axis, as the number whose binary digits are the orthants' bits: it counts box sides from
-- the cube's low side. A carry through the orthants moves it by one, and runs out just where the cube ends.
use Rattle.std.specs.Prelude.{◌≡◌, Bool, not, ◌&&◌, ◌≢◌, get_or}
use Rattle.std.proofs.Math.Path.{refl, ap}
use Rattle.std.proofs.Common.{◌∙◌, arith, add-zero, add-suc, suc-add}
use Rattle.std.proofs.Math.Bool.{true, false, cond}
use mathlib.Core.List.{List, [], ◌∷◌}
use Prim.Native.Nat.{ℕ, zero, suc, ◌+◌, ◌-◌, ◌*◌, ◌%◌, ◌^◌, ◌≤◌, ◌<◌}
use Rattle.std.proofs.Math.Dec.{eqb}
use Rattle.std.proofs.Math.ListN.{length}
use Rattle.dimension.specs.Sizes.{halvings, side_after}
use Rattle.dimension.specs.Laws.{side_twice}
use Rattle.bisection.specs.Codes.{high}
use Rattle.bisection.specs.Refusals.{own_minus, same_sign}
use Rattle.bisection.proofs.Theorems.Paths.{own_none}
use Rattle.bisection.specs.Theorems.Drawn.{box_low}
use Rattle.bisection.proofs.Theorems.Crossing.Flips.{flipped_at, flipped_other, flipped_fits}
use Rattle.bisection.specs.Theorems.Table.{flipped, runs_out, carried}
use Rattle.bisection.specs.Theorems.Crossing.Boxes.{Carried, box_at, on, out}

pub box_at_fits : (a : ℕ) (os : List ℕ) → box_at a os < 2 ^ length os
unfolding box_at
box_at_fits a [] = omega arith
box_at_fits a (o ∷ os) = go (high o a) (box_at_fits a os)
  where
    go : (t : Bool) → box_at a os < 2 ^ length os → cond t (2 ^ length os) 0 + box_at a os < 2 ^ suc (length os)
    go true h = omega arith
    go false h = omega arith

twice : (n : ℕ) → 2 ^ suc n ≡ 2 * 2 ^ n
twice n = omega arith

-- its low side is that many sides from the cube's
side_times : (M n : ℕ) → M + n ≤ halvings → side_after M ≡ side_after (M + n) * 2 ^ n
side_times M zero h = rw (add-zero M) (omega arith)
side_times M (suc n) h = rw (add-suc M n) (side_times M n (omega arith) ∙ ap (λ (x : ℕ). x * 2 ^ n) (side_twice (M + n) (omega arith)) ∙ again (side_after (suc (M + n))) (2 ^ n) (2 ^ suc n) (twice n))
  where
    again : (s x y : ℕ) → y ≡ 2 * x → 2 * s * x ≡ s * y
    again s x y e = rw e (omega arith)

pub box_low_box_at : (a M : ℕ) (os : List ℕ) → M + length os ≤ halvings → box_low a M os ≡ side_after (M + length os) * box_at a os
unfolding box_low box_at
box_low_box_at a M [] h = omega arith
box_low_box_at a M (o ∷ os) h = rw (add-suc M (length os), ← suc-add M (length os)) (go (high o a) (box_low_box_at a (suc M) os (omega arith)) (side_times (suc M) (length os) (omega arith)))
  where
    s : ℕ
    s = side_after (suc M + length os)

    go : (t : Bool) → box_low a (suc M) os ≡ s * box_at a os → side_after (suc M) ≡ s * 2 ^ length os → cond t (side_after (suc M)) 0 + box_low a (suc M) os ≡ s * (cond t (2 ^ length os) 0 + box_at a os)
    go true e f = omega arith
    go false e f = omega arith

pub less : (n : ℕ) → suc n - 1 ≡ n
less n = omega arith

-- the box's own sign is the last orthant's, and its parity
pub own_cons : (a o p : ℕ) (os : List ℕ) → own_minus (o ∷ p ∷ os) a ≡ own_minus (p ∷ os) a
unfolding own_minus
own_cons a o p os = rw (less (suc (length os)), less (length os)) refl

pub own_box_at : (a : ℕ) (os : List ℕ) → own_minus os a ≡ eqb (box_at a os % 2) 1
unfolding box_at
own_box_at a [] = own_none a
own_box_at a (o ∷ []) = unfold own_minus in go (high o a)
  where
    go : (t : Bool) → t ≡ eqb ((cond t 1 0 + 0) % 2) 1
    go true = refl
    go false = refl
own_box_at a (o ∷ p ∷ os) = own_cons a o p os ∙ own_box_at a (p ∷ os) ∙ go (high o a) (box_at a (p ∷ os))
  where
    go : (t : Bool) (x : ℕ) → eqb (x % 2) 1 ≡ eqb ((cond t (2 ^ suc (length os)) 0 + x) % 2) 1
    go true x = let e : x % 2 ≡ (2 ^ suc (length os) + x) % 2 = omega arith in ap (λ (y : ℕ). eqb y 1) e
    go false x = let e : x % 2 ≡ (0 + x) % 2 = omega arith in ap (λ (y : ℕ). eqb y 1) e

carried_more : (up h : Bool) (N b b' : ℕ) {r : Bool} → Carried up N b b' r → Carried up (2 * N) (cond h N 0 + b) (cond (cond r (not h) h) N 0 + b') (same_sign h up && r)
carried_more true true N b b' (out e f) = out (omega arith) (omega arith)
carried_more true false N b b' (out e f) = on (omega arith)
carried_more false true N b b' (out e f) = on (omega arith)
carried_more false false N b b' (out e f) = out (omega arith) (omega arith)
carried_more true true N b b' (on e) = on (omega arith)
carried_more true false N b b' (on e) = on (omega arith)
carried_more false true N b b' (on e) = on (omega arith)
carried_more false false N b b' (on e) = on (omega arith)

module _ (up : Bool) (a : ℕ) where
  pub carried_length : (os : List ℕ) → length (carried up a os) ≡ length os
  unfolding carried
  carried_length [] = refl
  carried_length (o ∷ os) = ap suc (carried_length os)

  high_if : (r : Bool) (o : ℕ) → high (cond r (flipped a o) o) a ≡ cond r (not (high o a)) (high o a)
  high_if true o = flipped_at a o
  high_if false o = refl

  pub carried_box : (os : List ℕ) → Carried up (2 ^ length os) (box_at a os) (box_at a (carried up a os)) (runs_out up a os)
  unfolding carried runs_out box_at
  carried_box [] = go up
    where
      go : (up : Bool) → Carried up 1 0 0 true
      go true = out refl refl
      go false = out refl refl
  carried_box (o ∷ os) = rw (high_if (runs_out up a os) o, carried_length os, twice (length os)) (carried_more up (high o a) (2 ^ length os) (box_at a os) (box_at a (carried up a os)) (carried_box os))

  -- the boxes on the other axes stay
  pub carried_other : (b : ℕ) → 1 ≤ a → 1 ≤ b → b ≢ a → (os : List ℕ) → box_at b (carried up a os) ≡ box_at b os
  unfolding carried box_at
  carried_other b a1 b1 n [] = refl
  carried_other b a1 b1 n (o ∷ os) = rw (carried_length os, carried_other b a1 b1 n os, same (runs_out up a os)) refl
    where
      same : (r : Bool) → high (cond r (flipped a o) o) b ≡ high o b
      same true = flipped_other a o b a1 b1 n
      same false = refl

  pub carried_fits : (d : ℕ) → 1 ≤ a → a ≤ d → (os : List ℕ) → ((t : ℕ) → t < length os → get_or os t 0 < 2 ^ d) → (t : ℕ) → t < length os → get_or (carried up a os) t 0 < 2 ^ d
  unfolding carried
  carried_fits d a1 ad [] h t l = absurd (omega arith)
  carried_fits d a1 ad (o ∷ os) h zero l = go (runs_out up a os)
    where
      go : (r : Bool) → cond r (flipped a o) o < 2 ^ d
      go true = flipped_fits a o d a1 ad (h 0 l)
      go false = h 0 l
  carried_fits d a1 ad (o ∷ os) h (suc t) l = carried_fits d a1 ad os (λ t q. h (suc t) (omega arith)) t (omega arith)
