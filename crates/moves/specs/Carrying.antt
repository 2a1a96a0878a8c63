-- The carry of a move against an entry through the orthants of a code: where it ends, and the orthants that it flips.
use Rattle.std.specs.Prelude.{◌≡◌, Bool, true, false, cond, get_or, take, drop}
use Rattle.std.proofs.Math.Path.{refl, sym}
use Rattle.std.proofs.Common.{ap, ◌∙◌, drop-drop, get_or-drop, get_or-append-add}
use mathlib.Core.List.{List, [], ◌∷◌, ◌++◌}
use Prim.Native.Nat.{ℕ, zero, suc, ◌+◌, ◌-◌, ◌≤◌, ◌<◌}
use native.Mathlib.Omega.{arith}
use Rattle.std.proofs.Math.Decide.{dec_lt}
use Rattle.std.proofs.Math.ListN.{length, length-append, length-drop, get_or-append}
use Rattle.std.proofs.Math.Seq.{get_or-take, length-take-le, ext_get_or}
use Rattle.bisection.specs.Codes.{high}
use Rattle.bisection.specs.Refusals.{same_sign}
use Rattle.bisection.proofs.Theorems.Checked.{and_false, and_both}
use Rattle.bisection.specs.Theorems.Table.{flipped, runs_out, carried}
use Rattle.bisection.proofs.Theorems.Crossing.Boxes.{carried_length}

-- signs agree either way round
same_turned : (s t : Bool) → same_sign s t ≡ same_sign t s
same_turned true true = refl
same_turned true false = refl
same_turned false true = refl
same_turned false false = refl

-- the carry passes an orthant whose bit is as the entry's sign
abbrev pub passes : Bool → ℕ → ℕ → Bool
passes up a o = same_sign up (high o a)

-- where the carry ends: it passes every orthant from place r on, and the one before r stops it; none does where r is the first place
pub record Ends (up : Bool) (a : ℕ) (l : List ℕ) (from r : ℕ) : Type 0 where
  pub low : from ≤ r
  pub within : r ≤ length l
  pub passed : (j : ℕ) → r ≤ j → j < length l → passes up a (get_or l j 0) ≡ true
  pub stopped : from < r → passes up a (get_or l (r - 1) 0) ≡ false

-- the carry under way: it passes every orthant from place t on
pub record Running (up : Bool) (a : ℕ) (l : List ℕ) (t : ℕ) : Type 0 where
  pub within : t ≤ length l
  pub passed : (j : ℕ) → t ≤ j → j < length l → passes up a (get_or l j 0) ≡ true

-- the places from s to n have their bit of axis a flipped, and the others stay
pub record Flips (s n a : ℕ) (l r : List ℕ) : Type 0 where
  pub size : length r ≡ length l
  pub before : (j : ℕ) → j < s → get_or r j 0 ≡ get_or l j 0
  pub flips : (j : ℕ) → s ≤ j → j < n → get_or r j 0 ≡ flipped a (get_or l j 0)
  pub past : (j : ℕ) → n ≤ j → get_or r j 0 ≡ get_or l j 0

module _ (up : Bool) (a : ℕ) where
  runs_all : (os : List ℕ) → ((i : ℕ) → i < length os → passes up a (get_or os i 0) ≡ true) → runs_out up a os ≡ true
  unfolding runs_out
  runs_all [] f = refl
  runs_all (o ∷ os) f = and_both (same_sign (high o a) up) (runs_out up a os) (same_turned (high o a) up ∙ f 0 (omega arith)) (runs_all os (λ i l. f (suc i) (omega arith)))

  runs_not : (os : List ℕ) (i : ℕ) → i < length os → passes up a (get_or os i 0) ≡ false → runs_out up a os ≡ false
  unfolding runs_out
  runs_not [] i l e = absurd (omega arith)
  runs_not (o ∷ os) zero l e = rw (same_turned (high o a) up, e) refl
  runs_not (o ∷ os) (suc i) l e = rw (runs_not os i (omega arith) e) (and_false (same_sign (high o a) up))

  carried_at : (os : List ℕ) (i : ℕ) → i < length os → get_or (carried up a os) i 0 ≡ cond (runs_out up a (drop (suc i) os)) (flipped a (get_or os i 0)) (get_or os i 0)
  unfolding carried
  carried_at [] i l = absurd (omega arith)
  carried_at (o ∷ os) zero l = refl
  carried_at (o ∷ os) (suc i) l = carried_at os i (omega arith)

  module _ {l : List ℕ} {from r : ℕ} (e : Ends up a l from r) where
    -- the orthants from a place on: the carry runs out of those behind its end, and of no more
    past_end : (j : ℕ) → r ≤ j → runs_out up a (drop j l) ≡ true
    past_end j h = runs_all (drop j l) (λ i q. ap (passes up a) (get_or-drop j l i 0) ∙ e.passed (j + i) (omega arith) (omega (arith, length-drop j l)))

    before_end : (j : ℕ) → from ≤ j → j < r → runs_out up a (drop j l) ≡ false
    before_end j h q = runs_not (drop j l) (r - 1 - j) (omega (arith, length-drop j l, e.within))
        (ap (passes up a) (get_or-drop j l (r - 1 - j) 0 ∙ ap (λ (x : ℕ). get_or l x 0) there) ∙ e.stopped (omega arith))
      where
        there : j + (r - 1 - j) ≡ r - 1
        there = omega arith

    pub ends_out : r ≡ from → runs_out up a (drop from l) ≡ true
    ends_out q = past_end from (omega arith)

    pub ends_stopped : (r ≡ from → ⊥) → runs_out up a (drop from l) ≡ false
    ends_stopped n = before_end from (omega arith) (omega (arith, n, e.low))

    -- the carry's flips make the orthants carried; what stands before and behind them stays
    module _ (rest : List ℕ) {after : List ℕ} (room : from ≤ length l) (some : from < r) (f : Flips (r - 1) (length l) a (l ++ rest) after) where
      head : List ℕ
      head = take from l

      os : List ℕ
      os = drop from l

      head_length : length head ≡ from
      unfolding head
      head_length = length-take-le from l room

      os_length : length (carried up a os) ≡ length l - from
      unfolding os
      os_length = carried_length up a (drop from l) ∙ length-drop from l

      -- by the place: before the orthants, among them, behind them
      in_head : (j : ℕ) → j < from → get_or after j 0 ≡ get_or (head ++ (carried up a os ++ rest)) j 0
      unfolding head
      in_head j h = f.before j (omega arith) ∙ get_or-append l rest 0 j (omega arith)
          ∙ sym (get_or-append (take from l) (carried up a os ++ rest) 0 j (omega (arith, head_length)) ∙ get_or-take from l j 0 h)

      in_os : (j : ℕ) → from ≤ j → j < length l → get_or after j 0 ≡ get_or (carried up a os) (j - from) 0
      unfolding os
      in_os j h q = go (dec_lt j (r - 1))
        where
          here : from + (j - from) ≡ j
          here = omega arith

          next : from + suc (j - from) ≡ suc j
          next = omega arith

          read : get_or (drop from l) (j - from) 0 ≡ get_or l j 0
          read = get_or-drop from l (j - from) 0 ∙ ap (λ (x : ℕ). get_or l x 0) here

          behind : drop (suc (j - from)) (drop from l) ≡ drop (suc j) l
          behind = drop-drop (suc (j - from)) from l ∙ ap (λ (x : ℕ). drop x l) next

          at : get_or (carried up a (drop from l)) (j - from) 0 ≡ cond (runs_out up a (drop (suc j) l)) (flipped a (get_or l j 0)) (get_or l j 0)
          at = carried_at (drop from l) (j - from) (omega (arith, length-drop from l)) ∙ rw (behind, read) refl

          go : Dec (j < r - 1) → get_or after j 0 ≡ get_or (carried up a (drop from l)) (j - from) 0
          go (yes p) = f.before j p ∙ get_or-append l rest 0 j q ∙ sym (at ∙ rw (before_end (suc j) (omega arith) (omega arith)) refl)
          go (no p) = f.flips j (omega arith) q ∙ ap (flipped a) (get_or-append l rest 0 j q) ∙ sym (at ∙ rw (past_end (suc j) (omega arith)) refl)

      behind_head : (j : ℕ) → from ≤ j → get_or (head ++ (carried up a os ++ rest)) j 0 ≡ get_or (carried up a os ++ rest) (j - from) 0
      behind_head j h = ap (λ (x : ℕ). get_or (head ++ (carried up a os ++ rest)) x 0) there ∙ get_or-append-add head (carried up a os ++ rest) (j - from) 0
        where
          there : j ≡ length head + (j - from)
          there = omega (arith, head_length)

      in_rest : (j : ℕ) → length l ≤ j → get_or after j 0 ≡ get_or (carried up a os ++ rest) (j - from) 0
      in_rest j h = f.past j h ∙ ap (λ (x : ℕ). get_or (l ++ rest) x 0) whole ∙ get_or-append-add l rest (j - length l) 0
          ∙ sym (ap (λ (x : ℕ). get_or (carried up a os ++ rest) x 0) part ∙ get_or-append-add (carried up a os) rest (j - length l) 0)
        where
          whole : j ≡ length l + (j - length l)
          whole = omega arith

          part : j - from ≡ length (carried up a os) + (j - length l)
          part = omega (arith, os_length)

      pub flips_carried : after ≡ take from l ++ (carried up a (drop from l) ++ rest)
      unfolding head os
      flips_carried = ext_get_or 0 after (head ++ (carried up a os ++ rest)) size (λ j h. go j (dec_lt j from) (dec_lt j (length l)))
        where
          size : length after ≡ length (head ++ (carried up a os ++ rest))
          size = f.size ∙ length-append l rest ∙ sym (length-append head (carried up a os ++ rest) ∙ rw (head_length, length-append (carried up a os) rest, os_length) (omega arith))

          go : (j : ℕ) → Dec (j < from) → Dec (j < length l) → get_or after j 0 ≡ get_or (head ++ (carried up a os ++ rest)) j 0
          go j (yes p) q = in_head j p
          go j (no p) (yes q) = in_os j (omega arith) q ∙ sym (behind_head j (omega arith) ∙ get_or-append (carried up a os) rest 0 (j - from) (omega (arith, os_length)))
          go j (no p) (no q) = in_rest j (omega arith) ∙ sym (behind_head j (omega arith))
