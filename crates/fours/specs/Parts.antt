-- The orthant of entries, joined from the parts of each: where no axis is repeated, a bit is the sign of the one entry on its axis.
use Rattle.std.specs.Prelude.{◌≡◌, Bool, ◌≢◌, length, get_or, drop}
use Rattle.std.proofs.Math.Path.{refl}
use Rattle.std.proofs.Common.{sym, ap, ◌∙◌, arith, mod-eq_of_lt, eq-eqb, ne_eqb}
use Rattle.std.proofs.Math.Bool.{true, false, cond}
use mathlib.Core.List.{List, [], ◌∷◌, ◌++◌}
use Prim.Native.Nat.{ℕ, zero, suc, ◌-◌, ◌*◌, ◌/◌, ◌%◌, ◌^◌, ◌≤◌, ◌<◌}
use Rattle.std.proofs.Math.Nat.{mul-div_right}
use Rattle.std.specs.Int.Bits.{bit_or, or_lt, or_zero_l, or_zero_r}
use Rattle.std.proofs.Math.Pow.{pow_pos, pow-lt}
use Rattle.bisection.specs.Codes.{axis, minus, high, orthant}
use Rattle.bisection.specs.Theorems.Entries.{Signed}
use Rattle.bisection.proofs.Theorems.Passing.{orthant_only}
use Rattle.entries.specs.Masks.{mark_of, mark_in, marked_high, high_none}
use Rattle.fours.specs.declared.Four.{Four}
use Rattle.fours.specs.Fours.{four, no_entries, part_of, OwnIs}
use Rattle.fours.specs.Laws.{held_few}

-- the parts of all entries, joined
unfoldable pub parts_of : List ℕ → ℕ
parts_of [] = 0
parts_of (e ∷ es) = bit_or (parts_of es) (part_of e)

pub part_is : (e : ℕ) → 1 ≤ axis e → axis e ≤ 7 → part_of e ≡ cond (minus e) (mark_of (axis e)) 0
unfolding part_of
part_is e h l = ap (λ (m : ℕ). cond (minus e) m 0) (half (axis e) h l)
  where
    less : (n : ℕ) → n ≡ suc n - 1
    less n = omega arith

    twice : (n : ℕ) → 2 ^ suc n ≡ 2 * 2 ^ n
    twice n = omega arith

    half : (a : ℕ) → 1 ≤ a → a ≤ 7 → 2 ^ (a % 8) / 2 ≡ mark_of a
    half zero h l = absurd (omega arith)
    half (suc n) h l = ap (λ (m : ℕ). 2 ^ m / 2) (mod-eq_of_lt {n = suc n} {m = 8} (omega arith)) ∙ ap (λ (m : ℕ). m / 2) (twice n) ∙ mul-div_right (2 ^ n) {m = 2} (omega arith)
        ∙ ap (λ (m : ℕ). 2 ^ m) (less n) ∙ sym (mark_in (suc n) h (omega arith))

-- a part makes its own axis high where the entry has a minus, and changes no other
module _ (o e b : ℕ) (l : 1 ≤ b) (u : b ≤ 8) (low : 1 ≤ axis e) (few : axis e ≤ 7) where
  part_other : b ≢ axis e → high (bit_or o (part_of e)) b ≡ high o b
  part_other n = rw (part_is e low few) (go (minus e))
    where
      go : (t : Bool) → high (bit_or o (cond t (mark_of (axis e)) 0)) b ≡ high o b
      go true = rw (marked_high o (axis e) b l u, ne_eqb b (axis e) n) refl
      go false = rw (or_zero_r o) refl

  part_own : b ≡ axis e → high o b ≡ false → high (bit_or o (part_of e)) b ≡ minus e
  part_own q f = rw (part_is e low few) (go (minus e))
    where
      go : (t : Bool) → high (bit_or o (cond t (mark_of (axis e)) 0)) b ≡ t
      go true = rw (marked_high o (axis e) b l u, eq-eqb b (axis e) q) refl
      go false = rw (or_zero_r o) f

-- the axes of the entries are 1..d, for a d of at most 7
module _ (d : ℕ) (few : d ≤ 7) where
  pub record Axes (es : List ℕ) : Type 0 where
    pub low : (i : ℕ) → i < length es → 1 ≤ axis (get_or es i 0)
    pub high : (i : ℕ) → i < length es → axis (get_or es i 0) ≤ d
    pub apart : (i j : ℕ) → i < length es → j < length es → axis (get_or es i 0) ≡ axis (get_or es j 0) → i ≡ j

  rest : (e : ℕ) (es : List ℕ) → Axes (e ∷ es) → Axes es
  rest e es k = record {
    low = λ i l. k.low (suc i) (omega arith);
    high = λ i l. k.high (suc i) (omega arith);
    apart = λ i j l m q. omega (arith, k.apart (suc i) (suc j) (omega arith) (omega arith) q);
  }

  parts_fit : (es : List ℕ) → Axes es → parts_of es < 2 ^ d
  unfolding parts_of
  parts_fit [] k = pow_pos d
  parts_fit (e ∷ es) k = or_lt d (parts_of es) (part_of e) (parts_fit es (rest e es k)) (rw (part_is e (k.low 0 (omega arith)) (omega (arith, k.high 0 (omega arith)))) (go (minus e)))
    where
      go : (t : Bool) → cond t (mark_of (axis e)) 0 < 2 ^ d
      go true = rw (mark_in (axis e) (k.low 0 (omega arith)) (omega (arith, k.high 0 (omega arith))))
          (pow-lt {i = axis e - 1} {j = d} (omega (arith, k.low 0 (omega arith), k.high 0 (omega arith))))
      go false = pow_pos d

  parts_free : (es : List ℕ) → Axes es → (a : ℕ) → 1 ≤ a → a ≤ d → ((i : ℕ) → i < length es → axis (get_or es i 0) ≢ a) → high (parts_of es) a ≡ false
  unfolding parts_of
  parts_free [] k a l u n = high_none a
  parts_free (e ∷ es) k a l u n =
      part_other (parts_of es) e a l (omega arith) (k.low 0 (omega arith)) (omega (arith, k.high 0 (omega arith))) (λ q. n 0 (omega arith) (sym q))
      ∙ parts_free es (rest e es k) a l u (λ i h. n (suc i) (omega arith))

  parts_high : (es : List ℕ) → Axes es → (i : ℕ) → i < length es → high (parts_of es) (axis (get_or es i 0)) ≡ minus (get_or es i 0)
  unfolding parts_of
  parts_high [] k i h = absurd (omega arith)
  parts_high (e ∷ es) k zero h =
      part_own (parts_of es) e (axis e) (k.low 0 h) (omega (arith, k.high 0 h)) (k.low 0 h) (omega (arith, k.high 0 h)) refl
      (parts_free es (rest e es k) (axis e) (k.low 0 h) (k.high 0 h) (λ i l q. omega (arith, k.apart (suc i) 0 (omega arith) h q)))
  parts_high (e ∷ es) k (suc i) h =
      part_other (parts_of es) e (axis (get_or es i 0)) (k.low (suc i) h) (omega (arith, k.high (suc i) h)) (k.low 0 (omega arith)) (omega (arith, k.high 0 (omega arith)))
      (λ q. omega (arith, k.apart (suc i) 0 h (omega arith) q))
      ∙ parts_high es (rest e es k) i (omega arith)

  pub parts_orthant : (es : List ℕ) → Signed d es → parts_of es ≡ orthant es
  parts_orthant es s = orthant_only s (parts_of es) (parts_fit es k) (λ i l. sym (parts_high es k i (omega (arith, s.size))))
    where
      k : Axes es
      k = record { low = λ i l. s.low i (omega (arith, s.size)); high = λ i l. s.high i (omega (arith, s.size)); apart = λ i j l m. s.apart i j (omega (arith, s.size)) (omega (arith, s.size)) }

-- zeros behind the entries have no part
parts_none : (d : ℕ) → d ≤ 4 → parts_of (drop d no_entries) ≡ 0
unfolding parts_of part_of minus
parts_none zero l = refl
parts_none (suc zero) l = refl
parts_none (suc (suc zero)) l = refl
parts_none (suc (suc (suc zero))) l = refl
parts_none (suc (suc (suc (suc zero)))) l = refl
parts_none (suc (suc (suc (suc (suc d))))) l = absurd (omega arith)

parts_append : (es fs : List ℕ) → parts_of fs ≡ 0 → parts_of (es ++ fs) ≡ parts_of es
unfolding parts_of
parts_append [] fs e = e
parts_append (x ∷ es) fs e = ap (λ (o : ℕ). bit_or o (part_of x)) (parts_append es fs e)

pub own_is : (e : Four) (r : ℕ) → r ≡ bit_or (bit_or (bit_or (part_of e.fourth) (part_of e.third)) (part_of e.second)) (part_of e.first) → OwnIs e r
own_is e r q = record { own = λ d es h. q ∙ all ∙ ap parts_of h.is ∙ parts_append es (drop d no_entries) (parts_none d (held_few h)) ∙ parts_orthant d (omega (arith, held_few h)) es h.signed }
  where
    all : bit_or (bit_or (bit_or (part_of e.fourth) (part_of e.third)) (part_of e.second)) (part_of e.first) ≡ parts_of (four e)
    all = unfold parts_of in rw (or_zero_l (part_of e.fourth)) refl
