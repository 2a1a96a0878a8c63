-- Reading a record: bytes that pass a record's own tests begin with the mark, the code of a cell and the samples; and
-- the record of a cell passes them, whatever follows it.
use Rattle.std.specs.Prelude.{◌≡◌, refl, true, T, eqb, length, take, drop}
use Rattle.std.proofs.Math.Path.{sym, ap}
use Rattle.std.proofs.Common.{◌∙◌, subst, arith, length-take, take-append-drop, drop_at, drop-drop}
use mathlib.Core.List.{List, [], ◌∷◌, ◌++◌, append_assoc}
use Prim.Native.Nat.{ℕ, suc, ◌+◌, ◌*◌, ◌≤◌, min}
use Rattle.std.proofs.Math.ListN.{length-append, length-drop}
use borrow.Author.Tests.{eqb-true, eq-eqb, leb-true, le-leb}
use Rattle.bisection.specs.Refusals.{done, code_refusal}
use Rattle.bisection.proofs.Theorems.Checked.{both}
use Rattle.bisection.specs.Theorems.Ladders.{all_hold, holds, past}
use Rattle.bisection.proofs.Theorems.Ladders.{first_is, held_at}
use Rattle.codes.specs.Fronts.{front_refusal, front_dimension, front_length, front_code, inner_refusal}
use Rattle.codes.specs.Fronts.Laws.{front_code_dimension, front_code_rest, front_headed, headed_refusal, Fronted, code_fronted}
use Rattle.sheets.specs.Sheets.{begins_with, body_length, unmarked_refusal}

-- bytes that begin with the mark
pub begins_is : (mark bs : List ℕ) → begins_with mark bs ≡ true → bs ≡ mark ++ drop (length mark) bs
unfolding begins_with
begins_is [] bs e = refl
begins_is (m ∷ mark) [] e = absurd (subst T (sym e) tt)
begins_is (m ∷ mark) (b ∷ bs) e =
    let w = both (eqb b m) (begins_with mark bs) e in
    let h : b ≡ m = eqb-true b m w.0 in
    let t : bs ≡ mark ++ drop (length mark) bs = begins_is mark bs w.1 in cc

pub is_begins : (mark rest : List ℕ) → begins_with mark (mark ++ rest) ≡ true
unfolding begins_with
is_begins [] rest = refl
is_begins (m ∷ mark) rest = rw (eq-eqb m m refl, is_begins mark rest) refl

-- what passes the tests behind the mark: a code that passes, its samples, and a rest
pub record Passed (width : ℕ) (bs : List ℕ) : Type 0 where
  pub code : code_refusal (front_code bs) ≡ done
  pub dimension_is : front_dimension (front_code bs) ≡ front_dimension bs
  pub samples : List ℕ
  pub size : length samples ≡ width * suc (front_dimension bs)
  pub is : bs ≡ front_code bs ++ (samples ++ drop (body_length width bs) bs)
  pub inside : body_length width bs ≤ length bs

module _ (width : ℕ) (bs : List ℕ) (e : unmarked_refusal width bs ≡ done) where
  pub code_inside : front_length bs ≤ length bs
  unfolding unmarked_refusal
  code_inside = leb-true (front_length bs) (length bs) (held_at _ tt e 1)

  body_inside : body_length width bs ≤ length bs
  unfolding unmarked_refusal
  body_inside = leb-true (body_length width bs) (length bs) (held_at _ tt e 3)

  code_passes : code_refusal (front_code bs) ≡ done
  unfolding unmarked_refusal
  code_passes = headed_refusal (front_code bs) (front_headed bs code_inside (held_at _ tt e 0)) ∙ held_at _ tt e 2

  abbrev samples_in : List ℕ
  samples_in = take (width * suc (front_dimension bs)) (drop (front_length bs) bs)

  pub passed : Passed width bs
  passed = record { code = code_passes; dimension_is = front_code_dimension bs; samples = samples_in; size = length-take (width * suc (front_dimension bs)) (drop (front_length bs) bs) ∙ room; is = whole; inside = body_inside }
    where
      room : min (width * suc (front_dimension bs)) (length (drop (front_length bs) bs)) ≡ width * suc (front_dimension bs)
      room = unfold body_length in omega (arith, length-drop (front_length bs) bs, body_inside)

      behind : drop (front_length bs) bs ≡ samples_in ++ drop (body_length width bs) bs
      behind = unfold body_length in sym (take-append-drop (width * suc (front_dimension bs)) (drop (front_length bs) bs)) ∙ ap (λ (l : List ℕ). samples_in ++ l) (drop-drop (width * suc (front_dimension bs)) (front_length bs) bs)

      whole : bs ≡ front_code bs ++ (samples_in ++ drop (body_length width bs) bs)
      whole = front_code_rest bs ∙ ap (λ (l : List ℕ). front_code bs ++ l) behind

-- a code that passes, its samples and any rest pass the tests behind the mark
module _ (width : ℕ) (c samples rest : List ℕ) (e : code_refusal c ≡ done) (size : length samples ≡ width * suc (front_dimension c)) where
  abbrev all : List ℕ
  all = c ++ (samples ++ rest)

  f : Fronted c (samples ++ rest)
  f = code_fronted c e (samples ++ rest)

  pub code_in : front_code (c ++ (samples ++ rest)) ≡ c
  code_in = f.code_is

  pub body_length_is : body_length width (c ++ (samples ++ rest)) ≡ length (c ++ samples)
  unfolding body_length
  body_length_is = rw (f.size, f.dimension, length-append c samples) (omega (arith, size))

  whole_length : length (c ++ (samples ++ rest)) ≡ length c + (length samples + length rest)
  whole_length = length-append c (samples ++ rest) ∙ ap (λ (n : ℕ). length c + n) (length-append samples rest)

  pub unmarked_passes : unmarked_refusal width (c ++ (samples ++ rest)) ≡ done
  unfolding unmarked_refusal
  unmarked_passes = first_is (
      past f.refusal
      (holds (le-leb (front_length all) (length all) (omega (arith, f.size, whole_length)))
      (past (ap inner_refusal code_in ∙ f.inner)
      (holds (le-leb (body_length width all) (length all) (omega (arith, body_length_is, whole_length, length-append c samples))) all_hold))))

  pub rest_behind : drop (body_length width (c ++ (samples ++ rest))) (c ++ (samples ++ rest)) ≡ rest
  rest_behind = rw (body_length_is, ← append_assoc c samples rest) (drop_at (c ++ samples) rest (length (c ++ samples)) refl)

-- bytes that begin with a code that passes, and have room for its samples, pass the tests behind the mark
pub unmarked_by_code : (width : ℕ) (bs : List ℕ) → code_refusal (front_code bs) ≡ done → body_length width bs ≤ length bs → unmarked_refusal width bs ≡ done
unfolding unmarked_refusal
unmarked_by_code width bs e h = first_is (
    past (subst (λ (l : List ℕ). front_refusal l ≡ done) (sym (front_code_rest bs)) f.refusal)
    (holds (le-leb (front_length bs) (length bs) (unfold body_length in omega arith))
    (past f.inner
    (holds (le-leb (body_length width bs) (length bs) h) all_hold))))
  where
    f : Fronted (front_code bs) (drop (front_length bs) bs)
    f = code_fronted (front_code bs) e (drop (front_length bs) bs)
