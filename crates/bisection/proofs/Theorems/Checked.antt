-- The byte check against names: a byte string passes exactly when it is the bytes of a name that is a cell's.
use Rattle.std.specs.Prelude.{◌≡◌, refl, Bool, true, false, ◌&&◌, T, eqb}
use Rattle.std.proofs.Math.Path.{sym, ap}
use Rattle.std.proofs.Common.{◌∙◌, subst, length-take, length-drop, length-append, take-append-drop, drop_at, drop-drop}
use Rattle.std.proofs.Math.Bool.{not}
use mathlib.Core.List.{List, [], ◌∷◌, ◌++◌}
use Prim.Native.Nat.{ℕ, zero, suc, ◌+◌, ◌^◌, ◌≤◌, ◌<◌}
use native.Mathlib.Omega.{arith}
use Rattle.std.proofs.Math.Decide.{ℕ_discrete, dec_lt}
use Rattle.std.proofs.Math.Dec.{leb, ltb}
use Rattle.std.proofs.Math.ListN.{length, get_or, take, drop}
use Rattle.std.proofs.Math.Seq.{take_at}
use borrow.Author.Tests.{lt-ltb, le-leb, eq-eqb, ne_eqb, leb-true, ltb-true, eqb-true, eqb-false, not-true}
use Rattle.dimension.specs.Sizes.{is_dimension, greatest_depth, code_length, split_place, box_depth}
use Rattle.bisection.specs.Codes.{axis, minus, Name, bytes, dimension_of, depth_of, entries_of, orthants_of, parts_of}
use Rattle.bisection.specs.Refusals.{done, each, fresh, permutes, orthants_fit, own_minus, same_sign, signs_own, head_refusal, length_of, body_refusal, code_refusal}
use Rattle.bisection.specs.Theorems.Ladders.{all_hold, holds, past}
use Rattle.bisection.proofs.Theorems.Ladders.{first_is, held_at}
use Rattle.bisection.specs.Theorems.Entries.{Signed}
use Rattle.bisection.specs.Theorems.Passing.{Own, Boxes, Passes}
use Rattle.bisection.proofs.Theorems.Passing.{same_true, same_is}
use Rattle.bisection.specs.Theorems.Checked.{Good}

-- two tests, and a test of every number below n
pub both : (s t : Bool) → (s && t) ≡ true → (s ≡ true) × (t ≡ true)
both true t e = (refl, e)
both false t e = absurd (subst T (sym e) tt)

pub and_both : (s t : Bool) → s ≡ true → t ≡ true → (s && t) ≡ true
and_both s t e f = rw (e, f) refl

pub and_false : (t : Bool) → (t && false) ≡ false
and_false true = refl
and_false false = refl

pub each_at : (n : ℕ) (test : ℕ → Bool) → each n test ≡ true → (i : ℕ) → i < n → test i ≡ true
unfolding each
each_at zero test e i l = absurd (omega arith)
each_at (suc n) test e i l = go (ℕ_discrete i n) (each_at n test (both (test n) (each n test) e).1 i)
  where
    go : Dec (i ≡ n) → (i < n → test i ≡ true) → test i ≡ true
    go (yes q) ih = rw q (both (test n) (each n test) e).0
    go (no q) ih = ih (omega arith)

pub at_each : (n : ℕ) (test : ℕ → Bool) → ((i : ℕ) → i < n → test i ≡ true) → each n test ≡ true
unfolding each
at_each zero test h = refl
at_each (suc n) test h = and_both (test n) (each n test) (h n (omega arith)) (at_each n test (λ i l. h i (omega arith)))

pub each_fails : (n : ℕ) (f : ℕ → Bool) (i : ℕ) → i < n → f i ≡ false → each n f ≡ false
each_fails n f i l e = go (each n f) refl
  where
    go : (t : Bool) → each n f ≡ t → t ≡ false
    go false q = refl
    go true q = absurd (subst T (sym (each_at n f q i l) ∙ e) tt)

-- no axis before place i is a
module _ (es : List ℕ) (a i : ℕ) where
  pub fresh_apart : fresh es a i ≡ true → (j : ℕ) → j < i → axis (get_or es j 0) ≡ a → ⊥
  unfolding fresh
  fresh_apart e j l = eqb-false (axis (get_or es j 0)) a (not-true (eqb (axis (get_or es j 0)) a) (each_at i (λ j. not (eqb (axis (get_or es j 0)) a)) e j l))

  pub apart_fresh : ((j : ℕ) → j < i → axis (get_or es j 0) ≡ a → ⊥) → fresh es a i ≡ true
  unfolding fresh
  apart_fresh h = at_each i (λ j. not (eqb (axis (get_or es j 0)) a)) (λ j l. ap not (ne_eqb (axis (get_or es j 0)) a (h j l)))

module _ (d : ℕ) (es : List ℕ) where
  entry_fits : ℕ → Bool
  entry_fits i = leb 1 (axis (get_or es i 0)) && leb (axis (get_or es i 0)) d && fresh es (axis (get_or es i 0)) i

  pub permutes_signed : length es ≡ d → permutes d es ≡ true → Signed d es
  unfolding permutes entry_fits
  permutes_signed size e = record {
    size = size;
    low = λ i l. leb-true 1 (axis (get_or es i 0)) (both (leb 1 (axis (get_or es i 0))) (leb (axis (get_or es i 0)) d) (parts i l).0).0;
    high = λ i l. leb-true (axis (get_or es i 0)) d (both (leb 1 (axis (get_or es i 0))) (leb (axis (get_or es i 0)) d) (parts i l).0).1;
    apart = λ i j l m q. apart i j l m q (dec_lt i j) (dec_lt j i);
  }
    where
      parts : (i : ℕ) → i < d → ((leb 1 (axis (get_or es i 0)) && leb (axis (get_or es i 0)) d) ≡ true) × (fresh es (axis (get_or es i 0)) i ≡ true)
      parts i l = both (leb 1 (axis (get_or es i 0)) && leb (axis (get_or es i 0)) d) (fresh es (axis (get_or es i 0)) i) (each_at d entry_fits e i l)

      apart : (i j : ℕ) → i < d → j < d → axis (get_or es i 0) ≡ axis (get_or es j 0) → Dec (i < j) → Dec (j < i) → i ≡ j
      apart i j l m q (yes h) r = absurd (fresh_apart es (axis (get_or es j 0)) j (parts j m).1 i h q)
      apart i j l m q (no h) (yes r) = absurd (fresh_apart es (axis (get_or es i 0)) i (parts i l).1 j r (sym q))
      apart i j l m q (no h) (no r) = omega arith

  pub signed_permutes : Signed d es → permutes d es ≡ true
  unfolding permutes
  signed_permutes s = at_each d (λ i. leb 1 (axis (get_or es i 0)) && leb (axis (get_or es i 0)) d && fresh es (axis (get_or es i 0)) i)
      (λ i l. and_both (leb 1 (axis (get_or es i 0)) && leb (axis (get_or es i 0)) d) (fresh es (axis (get_or es i 0)) i)
      (and_both (leb 1 (axis (get_or es i 0))) (leb (axis (get_or es i 0)) d) (le-leb 1 (axis (get_or es i 0)) (s.low i l)) (le-leb (axis (get_or es i 0)) d (s.high i l)))
      (apart_fresh es (axis (get_or es i 0)) i (λ j h q. omega (arith, s.apart j i (omega arith) l q))))

module _ (d L : ℕ) (os : List ℕ) (size : length os ≡ L) where
  pub fit_boxes : orthants_fit d os ≡ true → Boxes d L os
  unfolding orthants_fit
  fit_boxes e = record { count = size; fit = λ t l. ltb-true (get_or os t 0) (2 ^ d) (each_at (length os) (λ i. ltb (get_or os i 0) (2 ^ d)) e t (omega arith)) }

  pub boxes_fit : Boxes d L os → orthants_fit d os ≡ true
  unfolding orthants_fit
  boxes_fit b = at_each (length os) (λ i. ltb (get_or os i 0) (2 ^ d)) (λ t l. lt-ltb (get_or os t 0) (2 ^ d) (b.fit t (omega arith)))

module _ (k : ℕ) (es os : List ℕ) where
  pub signs_own_is : signs_own k es os ≡ true → Own k es os
  unfolding signs_own
  signs_own_is e = record { sign = λ i l. same_true (minus (get_or es i 0)) (own_minus os (axis (get_or es i 0))) (each_at k (λ i. same_sign (minus (get_or es i 0)) (own_minus os (axis (get_or es i 0)))) e i l) }

  pub own_signs : Own k es os → signs_own k es os ≡ true
  unfolding signs_own
  own_signs o = at_each k (λ i. same_sign (minus (get_or es i 0)) (own_minus os (axis (get_or es i 0)))) (λ i l. same_is (minus (get_or es i 0)) (own_minus os (axis (get_or es i 0))) (o.sign i l))

-- the body's refusals
module _ (code : List ℕ) (entries : length (entries_of code) ≡ dimension_of code) (boxes : length (orthants_of code) ≡ box_depth (dimension_of code) (depth_of code)) where
  pub body_passes : body_refusal code ≡ done → Passes (dimension_of code) (depth_of code) (parts_of code)
  unfolding body_refusal parts_of
  body_passes e =
      let held = held_at _ tt e in
      record {
        signed = permutes_signed (dimension_of code) (entries_of code) entries (held 0);
        boxes = fit_boxes (dimension_of code) (box_depth (dimension_of code) (depth_of code)) (orthants_of code) boxes (held 1);
        own = signs_own_is (split_place (dimension_of code) (depth_of code)) (entries_of code) (orthants_of code) (held 2);
      }

  pub passes_body : Passes (dimension_of code) (depth_of code) (parts_of code) → body_refusal code ≡ done
  unfolding body_refusal parts_of
  passes_body p = first_is (
      holds (signed_permutes (dimension_of code) (entries_of code) p.signed)
      (holds (boxes_fit (dimension_of code) (box_depth (dimension_of code) (depth_of code)) (orthants_of code) boxes p.boxes)
      (holds (own_signs (split_place (dimension_of code) (depth_of code)) (entries_of code) (orthants_of code) p.own) all_hold)))

-- the bytes of a name, and their parts again
module _ (d D : ℕ) (m : Name) (entries : length m.entries ≡ d) where
  pub parts_bytes : parts_of (bytes d D m) ≡ m
  unfolding parts_of bytes entries_of orthants_of dimension_of
  parts_bytes = λ i. record { entries = take_at m.entries m.orthants d entries i; orthants = orthants i }
    where
      two : 2 + d ≡ suc (suc d)
      two = omega arith

      orthants : drop (2 + d) (d ∷ D ∷ (m.entries ++ m.orthants)) ≡ m.orthants
      orthants = rw two (drop_at m.entries m.orthants d entries)

-- from two bytes on, a list is its first two and the rest
two_and_rest : (l : List ℕ) → 2 ≤ length l → l ≡ get_or l 0 0 ∷ get_or l 1 0 ∷ drop 2 l
two_and_rest [] h = absurd (omega arith)
two_and_rest (x ∷ []) h = absurd (omega arith)
two_and_rest (x ∷ y ∷ l) h = refl

module _ (code : List ℕ) where
  d : ℕ
  d = dimension_of code

  D : ℕ
  D = depth_of code

  pub good : code_refusal code ≡ done → Good code
  unfolding code_refusal head_refusal length_of parts_of entries_of orthants_of code_length d D
  good e =
      let head = held_at _ tt (held_at _ tt e 1) in
      record { dimension = head 0; depth = leb-true D (greatest_depth d) (head 1); passes = body_passes code size_e size_o (held_at _ tt e 3); is = whole }
    where
      two : 2 ≤ length code
      two = leb-true 2 (length code) (held_at _ tt e 0)

      size : length code ≡ 2 + d + box_depth d D
      size = eqb-true (length code) (code_length d D) (held_at _ tt e 2)

      size_e : length (take d (drop 2 code)) ≡ d
      size_e = simp (length-take, length-drop) (omega (arith, size))

      size_o : length (drop (2 + d) code) ≡ box_depth d D
      size_o = simp length-drop (omega (arith, size))

      whole : code ≡ bytes d D (parts_of code)
      whole = unfold bytes dimension_of depth_of in two_and_rest code two ∙ ap (λ (l : List ℕ). get_or code 0 0 ∷ get_or code 1 0 ∷ l) rest
        where
          split : (l : List ℕ) (n : ℕ) → drop 2 l ≡ take n (drop 2 l) ++ drop n (drop 2 l)
          split l n = sym (take-append-drop n (drop 2 l))

          rest : drop 2 code ≡ take (get_or code 0 0) (drop 2 code) ++ drop (2 + get_or code 0 0) code
          rest = split code (get_or code 0 0) ∙ ap (λ (l : List ℕ). take (get_or code 0 0) (drop 2 code) ++ l) (drop-drop (get_or code 0 0) 2 code)

-- the bytes of a name that is a cell's pass
module _ (d D : ℕ) (m : Name) (dim : is_dimension d ≡ true) (deep : D ≤ greatest_depth d) (p : Passes d D m) where
  pub bytes_done : code_refusal (bytes d D m) ≡ done
  unfolding code_refusal head_refusal length_of code_length bytes dimension_of depth_of
  bytes_done = first_is (
      holds (le-leb 2 (length code) (omega arith))
      (past (first_is (holds dim (holds (le-leb D (greatest_depth d) deep) all_hold)))
      (holds (eq-eqb (length code) (2 + d + box_depth d D) size)
      (past body all_hold))))
    where
      code : List ℕ
      code = d ∷ D ∷ (m.entries ++ m.orthants)

      size : length code ≡ 2 + d + box_depth d D
      size = simp length-append (omega (arith, p.signed.size, p.boxes.count))

      parts : parts_of code ≡ m
      parts = parts_bytes d D m p.signed.size

      body : body_refusal code ≡ done
      body = unfold dimension_of depth_of parts_of in passes_body code (ap (λ (q : Name). length q.entries) parts ∙ p.signed.size) (ap (λ (q : Name). length q.orthants) parts ∙ p.boxes.count) (subst (Passes d D) (sym parts) p)
