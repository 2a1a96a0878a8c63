-- Lists read by their places: a list shifted left with one element put behind, the two children so, the midpoint of two points, and how
-- many bytes a point has.
use Rattle.std.specs.Prelude.{◌≡◌, refl, List, [], ◌∷◌, ◌++◌, set, take}
use Rattle.std.proofs.Math.Path.{sym, subst}
use Rattle.std.proofs.Common.{ap, ◌∙◌, one-add, length-take, length-append, get_or-take, get_or-append-add}
use Prim.Native.Nat.{ℕ, zero, suc, ◌+◌, ◌-◌, ◌*◌, ◌/◌, ◌<◌}
use native.Mathlib.Omega.{arith}
use Rattle.std.proofs.Math.ListN.{length, get_or, drop, length-drop, get_or-append}
use Rattle.std.proofs.Math.Seq.{get_or-drop, get_or_at}
use Rattle.std.proofs.lemmas.List.{set_split}
use Rattle.bisection.specs.Cells.{Cell, midpoint, child, point_bytes}
use Rattle.bisection.specs.Theorems.Lists.{middle, shifted}

module _ {A : Type 0} (z : A) (n : ℕ) (x : A) (l : List A) (h : n < length l) where
  front : List A
  front = take n (drop 1 l)

  front_length_is : length front ≡ n
  unfolding front
  front_length_is = simp (length-take, length-drop) (omega arith)

  pub shifted_before : (i : ℕ) → i < n → get_or (shifted n x l) i z ≡ get_or l (suc i) z
  unfolding shifted front
  shifted_before i q = let f : i < length front = rw front_length_is q in get_or-append front (x ∷ drop (suc n) l) z i f ∙ simp (get_or-take, get_or-drop, one-add)

  pub shifted_at : (i : ℕ) → i ≡ n → get_or (shifted n x l) i z ≡ x
  unfolding shifted front
  shifted_at i e = get_or_at front x (drop (suc n) l) z i (front_length_is ∙ sym e)

  pub shifted_past : (i : ℕ) → n < i → get_or (shifted n x l) i z ≡ get_or l i z
  unfolding shifted front
  shifted_past i q = subst (λ (m : ℕ). get_or (shifted n x l) m z ≡ get_or l m z) e
      (subst (λ (m : ℕ). get_or (front ++ x ∷ drop (suc n) l) m z ≡ get_or l (suc n + (i - suc n)) z) f (get_or-append-add front (x ∷ drop (suc n) l) (suc (i - suc n)) z ∙ get_or-drop (suc n) l (i - suc n) z))
    where
      e : suc n + (i - suc n) ≡ i
      e = omega arith

      f : length front + suc (i - suc n) ≡ suc n + (i - suc n)
      f = omega (arith, front_length_is)

  pub shifted_length : length (shifted n x l) ≡ length l
  unfolding shifted front
  shifted_length = simp (length-append, length-drop, front_length_is) (omega (arith, front_length_is))

pub child_set : (k : ℕ) (vs : Cell) → k < length vs → child 0 k vs ≡ set vs k (middle k vs)
unfolding child
child_set k vs room = sym (set_split vs k (middle k vs) room)

pub child_shifted : (b k : ℕ) (vs : Cell) → child (suc b) k vs ≡ shifted k (middle k vs) vs
unfolding child shifted
child_shifted b k vs = refl

pub get_or_midpoint : (p q : List ℕ) (a : ℕ) → length p ≡ length q → get_or (midpoint p q) a 0 ≡ (get_or p a 0 + get_or q a 0) / 2
unfolding midpoint
get_or_midpoint [] [] a e = refl
get_or_midpoint [] (y ∷ ys) a e = absurd (omega arith)
get_or_midpoint (x ∷ xs) [] a e = absurd (omega arith)
get_or_midpoint (x ∷ xs) (y ∷ ys) zero e = refl
get_or_midpoint (x ∷ xs) (y ∷ ys) (suc a) e = get_or_midpoint xs ys a (omega arith)

pub length_midpoint : (p q : List ℕ) → length p ≡ length q → length (midpoint p q) ≡ length p
unfolding midpoint
length_midpoint [] q e = refl
length_midpoint (x ∷ xs) [] e = absurd (omega arith)
length_midpoint (x ∷ xs) (y ∷ ys) e = ap suc (length_midpoint xs ys (omega arith))

-- two bytes to a coordinate
pub point_size : (v : List ℕ) → length (point_bytes v) ≡ 2 * length v
unfolding point_bytes
point_size [] = refl
point_size (x ∷ v) = omega (arith, point_size v)
