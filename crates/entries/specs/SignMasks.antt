-- The sign test by masks. The axes of the first k entries are one mask, the negated ones among them another: the signs are the own
-- ones exactly where the orthant byte is high, under the first mask, on the second's axes alone.
use Rattle.std.specs.Prelude.{◌≡◌, Bool, true, false, List, map, ℕ, ◌^◌, ◌≤◌, ◌<◌, T, eqb, length, get_or, take}
use Rattle.std.proofs.Math.Path.{refl}
use Rattle.std.proofs.Common.{sym, ap, ◌∙◌, subst, arith, get_or-take, eq-eqb, ne_eqb}
use Rattle.std.proofs.Math.Decide.{ℕ_discrete, dec_lt}
use Rattle.std.specs.Int.Bits.{bit_and, and_lt}
use Rattle.std.proofs.Math.ListN.{get_or-map}
use Rattle.bisection.specs.Codes.{axis, minus, high}
use Rattle.bisection.specs.Refusals.{permutes}
use Rattle.bisection.specs.Theorems.Entries.{Signed, Stands}
use Rattle.bisection.proofs.Theorems.Orthants.{bits_same}
use Rattle.bisection.proofs.Theorems.Passing.{same_true, same_is}
use Rattle.bisection.proofs.Theorems.Checked.{each_at, at_each}
use Rattle.entries.specs.Masks.{negated_alone, axis_none, minus_alone, plus_alone, high_and}
use Rattle.entries.specs.Marks.{HaveBits, MarksOf, first_at, permuted_signed, permuted_few}
use Rattle.entries.specs.Walks.{sign_test, signs_by}
use Rattle.entries.specs.Words.{NoneBehind, FirstOf}

-- a byte has a bit for every axis of the first k
pub first_bits : {k : ℕ} {es fs : List ℕ} → FirstOf k es fs → HaveBits es → HaveBits fs
first_bits {k} {es} {fs} f b = record { few = λ i. go i (dec_lt i k) }
  where
    go : (i : ℕ) → Dec (i < k) → axis (get_or fs i 0) ≤ 8
    go i (yes h) = subst (λ (e : ℕ). axis e ≤ 8) (sym (f.kept i h)) (b.few i)
    go i (no h) = omega (arith, ap axis (f.none i (omega arith)), axis_none)

-- the first k entries have axes, and none is repeated
pub record AxesWithin (k : ℕ) (es : List ℕ) : Type 0 where
  pub bits : HaveBits es
  pub low : (i : ℕ) → i < k → 1 ≤ axis (get_or es i 0)
  pub apart : (i j : ℕ) → i < k → j < k → axis (get_or es i 0) ≡ axis (get_or es j 0) → i ≡ j

-- those of a permutation, with zeros behind
pub permuted_axes : {n k : ℕ} {es : List ℕ} → permutes n es ≡ true → NoneBehind n es → n ≤ length es → n ≤ 8 → k ≤ n → AxesWithin k es
permuted_axes {n} {k} {es} p behind room few l = record {
  bits = record { few = λ i. omega (arith, permuted_few p behind room i) };
  low = λ i h. subst (λ (e : ℕ). 1 ≤ axis e) (at i (omega arith)) (s.low i (omega arith));
  apart = λ i j h m e. s.apart i j (omega arith) (omega arith) (ap axis (at i (omega arith)) ∙ e ∙ ap axis (sym (at j (omega arith))));
}
  where
    s : Signed n (take n es)
    s = permuted_signed es p room

    at : (i : ℕ) → i < n → get_or (take n es) i 0 ≡ get_or es i 0
    at i h = get_or-take n es i 0 h

-- the negated entries alone
alone_at : (es : List ℕ) (i : ℕ) → get_or (map negated_alone es) i 0 ≡ negated_alone (get_or es i 0)
unfolding negated_alone minus
alone_at es i = get_or-map negated_alone es i 0

-- one with an axis has a minus, and is the entry
alone_minus : (e : ℕ) → 1 ≤ axis (negated_alone e) → (minus e ≡ true) × (axis (negated_alone e) ≡ axis e)
alone_minus e h = go (minus e) refl
  where
    go : (t : Bool) → minus e ≡ t → (minus e ≡ true) × (axis (negated_alone e) ≡ axis e)
    go true q = (q, ap axis (minus_alone e q))
    go false q = absurd (omega (arith, ap axis (plus_alone e q), axis_none))

module _ {k axes negated : ℕ} {es fs : List ℕ} (few : k ≤ 4) (within : AxesWithin k es) (first : FirstOf k es fs) (m : MarksOf fs axes) (n : MarksOf (map negated_alone fs) negated) where
  axes_high : (i : ℕ) → i < k → high axes (axis (get_or es i 0)) ≡ true
  axes_high i h = subst (λ (e : ℕ). high axes (axis e) ≡ true) (first.kept i h)
      (m.marks i (omega arith) (subst (λ (e : ℕ). 1 ≤ axis e) (sym (first.kept i h)) (within.low i h)) ((first_bits first within.bits).few i))

  -- what is negated is the axis of a first entry with a minus
  record Negated (a : ℕ) : Type 0 where
    place : ℕ
    below : place < k
    is : axis (get_or es place 0) ≡ a
    sign : minus (get_or es place 0) ≡ true

  negated_at : (a : ℕ) → 1 ≤ a → a ≤ 8 → high negated a ≡ true → Negated a
  negated_at a l u h = record { place = j; below = kept.0; is = kept.1; sign = ap minus (sym (first.kept j kept.0)) ∙ alone.0 }
    where
      t : Stands (map negated_alone fs) a 4
      t = n.from a l u h

      j : ℕ
      j = t.place

      is : axis (negated_alone (get_or fs j 0)) ≡ a
      is = ap axis (sym (alone_at fs j)) ∙ t.is

      alone : (minus (get_or fs j 0) ≡ true) × (axis (negated_alone (get_or fs j 0)) ≡ axis (get_or fs j 0))
      alone = alone_minus (get_or fs j 0) (omega (arith, is))

      kept : (j < k) × (axis (get_or es j 0) ≡ a)
      kept = first_at first a j l (sym alone.1 ∙ is)

  negated_high : (i : ℕ) → i < k → high negated (axis (get_or es i 0)) ≡ minus (get_or es i 0)
  negated_high i h = go (minus (get_or es i 0)) refl
    where
      entry : minus (get_or es i 0) ≡ true → get_or (map negated_alone fs) i 0 ≡ get_or es i 0
      entry q = alone_at fs i ∙ ap negated_alone (first.kept i h) ∙ minus_alone (get_or es i 0) q

      low : (t : Bool) → high negated (axis (get_or es i 0)) ≡ t → minus (get_or es i 0) ≡ false → t ≡ false
      low false p q = refl
      low true p q = absurd (subst T (sym r.sign ∙ ap (λ (x : ℕ). minus (get_or es x 0)) (within.apart r.place i r.below h r.is) ∙ q) tt)
        where
          r : Negated (axis (get_or es i 0))
          r = negated_at (axis (get_or es i 0)) (within.low i h) (within.bits.few i) p

      go : (t : Bool) → minus (get_or es i 0) ≡ t → high negated (axis (get_or es i 0)) ≡ t
      go true q = subst (λ (e : ℕ). high negated (axis e) ≡ true) (entry q)
          (n.marks i (omega arith) (subst (λ (e : ℕ). 1 ≤ axis e) (sym (entry q)) (within.low i h)) (subst (λ (e : ℕ). axis e ≤ 8) (sym (entry q)) (within.bits.few i)))
      go false q = low (high negated (axis (get_or es i 0))) refl q

  signs_masked : {own : ℕ} → own < 2 ^ 8 → eqb (bit_and axes own) negated ≡ signs_by k es own
  unfolding signs_by
  signs_masked {own} small = go (ℕ_discrete (bit_and axes own) negated)
    where
      masked : (i : ℕ) → i < k → high (bit_and axes own) (axis (get_or es i 0)) ≡ high own (axis (get_or es i 0))
      masked i h = high_and axes own (axis (get_or es i 0)) ∙ rw (axes_high i h) refl

      bits : signs_by k es own ≡ true → (a : ℕ) → 1 ≤ a → a ≤ 8 → (t : Bool) → high axes a ≡ t → high (bit_and axes own) a ≡ high negated a
      bits e a l u true h = subst (λ (x : ℕ). high (bit_and axes own) x ≡ high negated x) kept.1
          (masked t.place kept.0 ∙ sym (same_true (minus (get_or es t.place 0)) (high own (axis (get_or es t.place 0))) (each_at k (sign_test es own) e t.place kept.0)) ∙ sym (negated_high t.place kept.0))
        where
          t : Stands fs a 4
          t = m.from a l u h

          kept : (t.place < k) × (axis (get_or es t.place 0) ≡ a)
          kept = first_at first a t.place l t.is
      bits e a l u false h = high_and axes own a ∙ rw h (sym (none (high negated a) refl))
        where
          none : (t : Bool) → high negated a ≡ t → t ≡ false
          none false q = refl
          none true q = absurd (subst T (sym (axes_high r.place r.below) ∙ ap (high axes) r.is ∙ h) tt)
            where
              r : Negated a
              r = negated_at a l u q

      wrong : (bit_and axes own ≡ negated → ⊥) → (t : Bool) → signs_by k es own ≡ t → t ≡ false
      wrong q false e = refl
      wrong q true e = absurd (q (bits_same 8 (bit_and axes own) negated (and_lt 8 axes own m.byte small) n.byte (λ a l u. bits e a l u (high axes a) refl)))

      go : Dec (bit_and axes own ≡ negated) → eqb (bit_and axes own) negated ≡ signs_by k es own
      go (yes q) = eq-eqb (bit_and axes own) negated q ∙ sym
          (at_each k (sign_test es own) (λ i h. same_is (minus (get_or es i 0)) (high own (axis (get_or es i 0))) (sym (negated_high i h) ∙ ap (λ (o : ℕ). high o (axis (get_or es i 0))) (sym q) ∙ masked i h)))
      go (no q) = ne_eqb (bit_and axes own) negated q ∙ sym (wrong q (signs_by k es own) refl)

  -- as the code has the byte
  pub signs_by_masks : {own o : ℕ} → own < 256 → o ≡ own → eqb (bit_and axes o) negated ≡ signs_by k es own
  signs_by_masks small e = rw e (signs_masked small)
