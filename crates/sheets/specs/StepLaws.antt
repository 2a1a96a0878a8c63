-- The laws of the functions of the sheet layer, one for each way out.
use Rattle.std.specs.Prelude.{◌≡◌, true, false, ◌&&◌, ℕ, Some, Result, Ok, Err, IsOk, suc, ◌+◌, ◌-◌, ◌*◌, ◌≤◌, ◌<◌, eqb, leb, length, get_or, take, drop}
use Rattle.std.specs.List.{slice_range}
use Rattle.std.proofs.Math.Path.{refl, sym}
use Rattle.std.proofs.Common.{ap, ◌∙◌, subst, arith}
use mathlib.Core.List.{List, [], ◌∷◌}
use Rattle.std.proofs.Math.ListN.{length-drop}
use Rattle.std.proofs.Math.Seq.{take_all}
use borrow.Author.Tests.{le-leb, lt-leb, leb-true}
use Rattle.dimension.specs.Sizes.{axes_of}
use Rattle.bisection.specs.declared.Refusal.{Refusal}
use Rattle.bisection.specs.declared.Refusal.TheVariants.{Record}
use Rattle.bisection.specs.Refusals.{done, refused_record}
use Rattle.bisection.specs.Numbers.{number_of}
use Rattle.bisection.specs.NumberLaws.{refuses}
use Rattle.bisection.proofs.Theorems.Checked.{both}
use Rattle.bisection.specs.Theorems.Ladders.{all_hold, holds, fails, past, stops}
use Rattle.bisection.proofs.Theorems.Ladders.{first_is, own_last, held_at}
use Rattle.codes.specs.declared.Head.{Head}
use Rattle.codes.specs.Fronts.{front_length, front_code, inner_refusal, HeadOf, HeadIs, Headed}
use Rattle.codes.specs.Fronts.Laws.{front_is_front, front_headed}
use Rattle.next.specs.declared.Match.{Match}
use Rattle.next.specs.Nexts.{MatchIs}
use Rattle.sheets.specs.declared.Edition.{Edition}
use Rattle.sheets.specs.declared.SheetAnswer.{SheetAnswer}
use Rattle.sheets.specs.declared.State.{State}
use Rattle.sheets.specs.Sheets.{sample_width, begins_with, behind_mark, is_marked, body_length, record_length, unmarked_refusal, record_refusal, Checks, SheetIs}
use Rattle.sheets.specs.Steps.{mark_of, IsFirst, Marked, PartsAre, OpenIs, refused, Unfit, cut_short}
use Rattle.sheets.specs.Theorems.Reading.{passed}

-- the mark's test, for a mark of two bytes
module _ (first second : ℕ) where
  abbrev pub two_bytes : List ℕ
  two_bytes = first ∷ second ∷ []

  pub marked_is : (bs : List ℕ) → is_marked two_bytes bs ≡ (leb 4 (length bs) && (eqb (get_or bs 0 0) first && eqb (get_or bs 1 0) second))
  unfolding is_marked behind_mark begins_with
  marked_is [] = grind arith
  marked_is (x ∷ []) = grind arith
  marked_is (x ∷ y ∷ bs) = grind arith

  pub part_marked : (bs : List ℕ) → take (length bs - 2) (drop 2 bs) ≡ behind_mark two_bytes bs
  unfolding behind_mark
  part_marked bs = take_all (length bs - 2) (drop 2 bs) (omega (arith, length-drop 2 bs))

-- a mark, and two bytes behind it
pub marked_two : (mark bs : List ℕ) → is_marked mark bs ≡ true → 2 ≤ length (behind_mark mark bs)
unfolding is_marked
marked_two mark bs m = leb-true 2 (length (behind_mark mark bs)) (both (begins_with mark bs) (leb 2 (length (behind_mark mark bs))) m).1

pub marked_long : (mark bs : List ℕ) → is_marked mark bs ≡ true → length mark + 2 ≤ length bs
unfolding behind_mark
marked_long mark bs m = omega (arith, length-drop (length mark) bs, marked_two mark bs m)

-- behind the mark: each way out is a test that fails behind tests that hold
pub body_head : (width : ℕ) (bs : List ℕ) (x : Refusal) → HeadIs bs (Err x) → number_of x ≡ unmarked_refusal width bs
unfolding unmarked_refusal
body_head width bs x e = sym (first_is (stops (sym e) (refuses x)))

module _ (width : ℕ) (bs : List ℕ) {r : Head} (is : HeadOf bs r) where
  pub body_cut : length bs < r.length → refused_record ≡ unmarked_refusal width bs
  unfolding unmarked_refusal
  body_cut h = sym (first_is (past is.passes (fails (lt-leb (front_length bs) (length bs) (omega (arith, is.length))))))

  -- the code that is got from the bytes
  module _ {code : List ℕ} (inside : r.length ≤ length bs) (got : code ≡ slice_range bs 0 r.length) where
    room : leb (front_length bs) (length bs) ≡ true
    room = le-leb (front_length bs) (length bs) (omega (arith, is.length))

    front : code ≡ front_code bs
    front = got ∙ ap (λ (n : ℕ). take n bs) size ∙ front_is_front bs
      where
        size : r.length - 0 ≡ front_length bs
        size = omega (arith, is.length)

    pub body_headed : Headed code
    body_headed = rw front (front_headed bs (omega (arith, is.length)) is.passes)

    pub body_inner : (x : Refusal) → number_of x ≡ inner_refusal code → number_of x ≡ unmarked_refusal width bs
    unfolding unmarked_refusal
    body_inner x e = sym (first_is (past is.passes (holds room (stops (sym (rw front at e)) (refuses x)))))

    module _ (e : done ≡ inner_refusal code) {n : ℕ} (s : n ≡ width * suc (axes_of r.dim)) where
      inner : inner_refusal (front_code bs) ≡ done
      inner = sym (rw front at e)

      whole : r.length + n ≡ body_length width bs
      unfolding body_length
      whole = rw (s, is.length, is.dimension) refl

      pub body_samples : length bs < r.length + n → refused_record ≡ unmarked_refusal width bs
      unfolding unmarked_refusal
      body_samples l = sym (first_is (past is.passes (holds room (past inner (fails (lt-leb (body_length width bs) (length bs) (omega (arith, whole))))))))

      pub body_done : r.length + n ≤ length bs → done ≡ unmarked_refusal width bs
      unfolding unmarked_refusal
      body_done l = sym (first_is (past is.passes (holds room (past inner (holds (le-leb (body_length width bs) (length bs) (omega (arith, whole))) all_hold)))))

-- the record by its mark
module _ (mark : List ℕ) (width : ℕ) (bs : List ℕ) where
  pub record_unmarked : is_marked mark bs ≡ false → refused_record ≡ record_refusal mark width bs
  unfolding record_refusal
  record_unmarked e = sym (first_is (fails e))

  pub record_marked : is_marked mark bs ≡ true → (x : ℕ) → x ≡ unmarked_refusal width (behind_mark mark bs) → x ≡ record_refusal mark width bs
  unfolding record_refusal
  record_marked m x e = e ∙ sym (first_is (holds m (own_last (unmarked_refusal width (behind_mark mark bs)))))

-- the head behind a mark of two bytes, as the code reads it
module _ (first second : ℕ) (bs : List ℕ) (r : Result Head Refusal) (is : HeadIs (take (length bs - 2) (drop 2 bs)) r) where
  pub head_behind : HeadIs (behind_mark (two_bytes first second) bs) r
  head_behind = subst (λ (l : List ℕ). HeadIs l r) (part_marked first second bs) is

  pub head_known : {h : Head} → r ≡ Ok h → HeadOf (behind_mark (two_bytes first second) bs) h
  head_known e = subst (HeadIs (behind_mark (two_bytes first second) bs)) e head_behind

-- the parts of a record that passes its own tests
module _ (mark : List ℕ) (width : ℕ) (bs : List ℕ) (e : record_refusal mark width bs ≡ done) where
  pub parts_marked : is_marked mark bs ≡ true
  unfolding record_refusal
  parts_marked = held_at _ tt e 0

  pub parts_passed : unmarked_refusal width (behind_mark mark bs) ≡ done
  unfolding record_refusal
  parts_passed = held_at _ tt e 1

  pub parts_inside : record_length mark width bs ≤ length bs
  unfolding record_length behind_mark
  parts_inside = omega (arith, (passed width (behind_mark mark bs) parts_passed).inside, length-drop (length mark) bs, marked_long mark bs parts_marked)

  -- so its head passes
  pub parts_headed : (r : Result Head Refusal) → HeadIs (behind_mark mark bs) r → IsOk r
  parts_headed (Ok h) is = refl
  parts_headed (Err x) is = absurd (refuses x (body_head width (behind_mark mark bs) x is ∙ parts_passed))

  module _ {r : Head} (is : HeadOf (behind_mark mark bs) r) {n : ℕ} (s : n ≡ width * suc (axes_of r.dim)) where
    parts_whole : length mark + (r.length + n) ≡ record_length mark width bs
    unfolding record_length body_length
    parts_whole = rw (s, is.length, is.dimension) refl

    pub parts_fit : length mark + (r.length + n) ≤ length bs
    parts_fit = omega (arith, parts_whole, parts_inside)

    pub parts_are : PartsAre mark width bs (record { dim = r.dim; code = r.length; whole = length mark + (r.length + n) })
    parts_are = record { dimension_is = is.dimension; code_is = is.length; whole_is = parts_whole }

-- a first record that is refused, by its mark or by its head
module _ {mark bs : List ℕ} where
  pub open_unmarked : 0 < length bs → is_marked mark bs ≡ false → OpenIs mark bs (Err Record)
  open_unmarked some m = refused some (λ width. record_unmarked mark width bs m)

  pub open_refused : {rest : List ℕ} → Marked mark bs rest → (x : Refusal) → HeadIs rest (Err x) → OpenIs mark bs (Err x)
  open_refused m x e = refused (omega (arith, marked_long mark bs m.marked)) (λ width. record_marked mark width bs m.marked _ (body_head width (behind_mark mark bs) x (rw (← m.rest_is) e)))

-- a record whose samples are cut short
pub unfit_short : {mark bs rest : List ℕ} {width n : ℕ} {s : State} {m : Match} → Marked mark bs rest → MatchIs (axes_of s.dim) s.next rest (Some m) → n ≡ width * suc (axes_of s.dim) → length rest < m.length + n
    → Unfit mark width s bs
unfit_short {mark} {bs} {width = width} {s = s} {m = m} k is q h = cut_short {m = m} (rw (← k.rest_is) is) (omega (arith, q, ap length k.rest_is))

-- what is checked of the edition of document 01 is what the sheet check answers
pub first_checks : {sheet : List ℕ} {r : SheetAnswer} (e : Edition) → IsFirst e → Checks (mark_of e) e.width sheet r → SheetIs sheet r
first_checks {sheet} {r} e f c = subst (λ (m : List ℕ). Checks m sample_width sheet r) f.mark_is (subst (λ (w : ℕ). Checks (mark_of e) w sheet r) f.width_is c)

-- the rest of a slice
pub part_all : (s : List ℕ) (at : ℕ) → take (length s - at) (drop at s) ≡ drop at s
part_all s at = take_all (length s - at) (drop at s) (omega (arith, length-drop at s))
