-- Where a carry stops. It leaves the orthants before a bit that stops it as they are. At the start of a level entry 1
-- carries the box's own sign, so that the carry across facet 0 stops at the last orthant: its bit of that axis flips,
-- and there is no cell across only where there is no orthant.
use Rattle.std.specs.Prelude.{◌≡◌, Bool, true, false, not, ◌&&◌, ℕ, suc, ◌<◌, eqb, length}
use Rattle.std.proofs.Math.Path.{refl, ap}
use Rattle.std.proofs.Common.{◌∙◌}
use mathlib.Core.List.{List, [], ◌∷◌, ◌++◌}
use Rattle.std.proofs.Math.Dec.{eqb-suc-zero}
use Rattle.dimension.specs.Laws.{split_range}
use Rattle.bisection.specs.Codes.{axis, minus, high, Name}
use Rattle.bisection.specs.Refusals.{own_minus, same_sign}
use Rattle.bisection.specs.Theorems.Passing.{Passes}
use Rattle.bisection.proofs.Theorems.Checked.{and_false}
use Rattle.bisection.specs.Theorems.Table.{farther, runs_out, carried, first_entry, orthants_by, blocked_by}
use Rattle.bisection.proofs.Theorems.Crossing.Boxes.{less, own_cons}
use Rattle.bisection.specs.Theorems.Crossing.Stops.{last_flipped}

module _ (up : Bool) (a : ℕ) (ys : List ℕ) (e : runs_out up a ys ≡ false) where
  pub runs_out_front : (xs : List ℕ) → runs_out up a (xs ++ ys) ≡ false
  unfolding runs_out
  runs_out_front [] = e
  runs_out_front (x ∷ xs) = rw (runs_out_front xs) (and_false (same_sign (high x a) up))

  pub carried_front : (xs : List ℕ) → carried up a (xs ++ ys) ≡ xs ++ carried up a ys
  unfolding carried
  carried_front [] = refl
  carried_front (x ∷ xs) = rw (runs_out_front xs, carried_front xs) refl

same_not : (t : Bool) → (same_sign t (not t) && true) ≡ false
same_not true = refl
same_not false = refl

pub runs_out_own : (a : ℕ) (os : List ℕ) → runs_out (not (own_minus os a)) a os ≡ eqb (length os) 0
unfolding runs_out
runs_out_own a [] = refl
runs_out_own a (o ∷ []) = unfold own_minus in same_not (high o a)
runs_out_own a (o ∷ p ∷ os) = ap (λ (t : Bool). runs_out (not t) a (o ∷ p ∷ os)) (own_cons a o p os)
    ∙ rw (runs_out_own a (p ∷ os), eqb-suc-zero (length os), eqb-suc-zero (suc (length os))) (and_false (same_sign (high o a) (not (own_minus (p ∷ os) a))))

pub carried_own : (a : ℕ) (os : List ℕ) → carried (not (own_minus os a)) a os ≡ last_flipped a os
unfolding carried last_flipped
carried_own a [] = refl
carried_own a (o ∷ []) = unfold runs_out in refl
carried_own a (o ∷ p ∷ os) = ap (λ (t : Bool). carried (not t) a (o ∷ p ∷ os)) (own_cons a o p os)
    ∙ rw (runs_out_own a (p ∷ os), eqb-suc-zero (length os), carried_own a (p ∷ os), less (suc (length os)), less (length os)) refl

module _ (d D : ℕ) (d0 : 0 < d) (m : Name) (p : Passes d D m) where
  own_first : minus (first_entry m) ≡ own_minus m.orthants (axis (first_entry m))
  own_first = p.own.sign 0 (split_range d D d0).0

  pub first_orthants : orthants_by d farther m ≡ last_flipped (axis (first_entry m)) m.orthants
  unfolding orthants_by
  first_orthants = ap (λ (t : Bool). carried (not t) (axis (first_entry m)) m.orthants) own_first ∙ carried_own (axis (first_entry m)) m.orthants

  pub first_blocked : blocked_by d farther m ≡ eqb (length m.orthants) 0
  unfolding blocked_by
  first_blocked = ap (λ (t : Bool). runs_out (not t) (axis (first_entry m)) m.orthants) own_first ∙ runs_out_own (axis (first_entry m)) m.orthants
