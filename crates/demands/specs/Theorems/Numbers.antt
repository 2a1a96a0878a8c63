-- Refusals of the entries: each is a number of the table, and what a query of a sheet refuses while reading it has the sheet check's
-- offset.
use Rattle.std.specs.Prelude.{◌≡◌, refl, true, false, List, [], ◌∷◌, ◌≢◌, ℕ, zero, suc, ◌≤◌, drop}
use Rattle.std.proofs.Common.{ap, ◌∙◌, arith}
use Rattle.bisection.specs.Refusals.{done, Test, need, own, first_refusal, head_refusal, body_refusal, code_refusal, refused_point}
use Rattle.bisection.specs.declared.Refused.{Refused}
use Rattle.bisection.specs.Numbers.{number_of}
use Rattle.codes.specs.Fronts.{front_code}
use Rattle.codes.specs.Fronts.Laws.{front_refusal_is, inner_refusal_is}
use Rattle.codes.specs.Outcomes.{path_refusal, to_path_refusal, vertices_refusal, child_refusal, parent_refusal}
use Rattle.sheets.specs.declared.SheetAnswer.{SheetAnswer}
use Rattle.sheets.specs.Sheets.{sheet_mark, sample_width, SheetIs, good, record_refused, not_next, ended_early, behind_mark, unmarked_refusal, record_refusal, told, Good, Query, sheet_refused, sheet_good}
use Rattle.sheets.specs.Theorems.Determined.{sheet_determined}
use Rattle.queries.specs.Queries.{leaf_refusal, Tells}
use Rattle.demands.specs.One.{OffsetOf}

-- the numbers of a list of tests
unfoldable Numbered : List Test → Type 0
Numbered [] = Unit {0}
Numbered (need b number ∷ tests) = (number ≤ 15) × Numbered tests
Numbered (own number ∷ tests) = (number ≤ 15) × Numbered tests

numbered : (tests : List Test) → Numbered tests → first_refusal tests ≤ 15
unfolding Numbered first_refusal
numbered [] a = omega arith
numbered (need true number ∷ tests) a = numbered tests a.1
numbered (need false number ∷ tests) a = a.0
numbered (own zero ∷ tests) a = numbered tests a.1
numbered (own (suc number) ∷ tests) a = a.0

head_in : (bs : List ℕ) → head_refusal bs ≤ 15
unfolding head_refusal Numbered
head_in bs = numbered _ (omega arith, (omega arith, tt))

body_in : (code : List ℕ) → body_refusal code ≤ 15
unfolding body_refusal Numbered
body_in code = numbered _ (omega arith, (omega arith, (omega arith, tt)))

pub code_in : (code : List ℕ) → code_refusal code ≤ 15
unfolding code_refusal Numbered
code_in code = numbered _ (omega arith, (head_in code, (omega arith, (body_in code, tt))))

pub path_in : (root path : List ℕ) (room : ℕ) → path_refusal root path room ≤ 15
unfolding path_refusal Numbered
path_in root path room = numbered _ (omega arith, (omega arith, (omega arith, (omega arith, (omega arith, tt)))))

pub to_path_in : (code : List ℕ) (root_room path_room : ℕ) → to_path_refusal code root_room path_room ≤ 15
unfolding to_path_refusal Numbered
to_path_in code root_room path_room = numbered _ (code_in code, (omega arith, tt))

pub vertices_in : (code : List ℕ) (room : ℕ) → vertices_refusal code room ≤ 15
unfolding vertices_refusal Numbered
vertices_in code room = numbered _ (code_in code, (omega arith, tt))

pub child_in : (code : List ℕ) (which room : ℕ) → child_refusal code which room ≤ 15
unfolding child_refusal Numbered
child_in code which room = numbered _ (code_in code, (omega arith, (omega arith, (omega arith, tt))))

pub parent_in : (code : List ℕ) (room : ℕ) → parent_refusal code room ≤ 15
unfolding parent_refusal Numbered
parent_in code room = numbered _ (code_in code, (omega arith, (omega arith, tt)))

pub leaf_in_is : (d : ℕ) (point : List ℕ) (room : ℕ) → leaf_refusal d point room ≤ 15
unfolding leaf_refusal Numbered
leaf_in_is d point room = numbered _ (omega arith, (omega arith, tt))

unmarked_in : (width : ℕ) (bs : List ℕ) → unmarked_refusal width bs ≤ 15
unfolding unmarked_refusal Numbered
unmarked_in width bs = numbered _ (omega (arith, head_in bs, front_refusal_is bs), (omega arith, (omega (arith, body_in (front_code bs), inner_refusal_is (front_code bs)), (omega arith, tt))))

record_in : (mark : List ℕ) (width : ℕ) (bs : List ℕ) → record_refusal mark width bs ≤ 15
unfolding record_refusal Numbered
record_in mark width bs = numbered _ (omega arith, (unmarked_in width (behind_mark mark bs), tt))

pub sheet_in : {sheet : List ℕ} {a : SheetAnswer} → SheetIs sheet a → a.refusal ≤ 15
sheet_in (good g e) = omega (arith, ap (λ (a : SheetAnswer). a.refusal) e)
sheet_in {sheet} (record_refused {at = at} r l k e) = omega (arith, ap (λ (a : SheetAnswer). a.refusal) e, record_in sheet_mark sample_width (drop at sheet))
sheet_in (not_next r l k b e) = omega (arith, ap (λ (a : SheetAnswer). a.refusal) e)
sheet_in (ended_early r l k e) = omega (arith, ap (λ (a : SheetAnswer). a.refusal) e)

-- a refused sheet has no records
pub sheet_none : {sheet : List ℕ} {a : SheetAnswer} → SheetIs sheet a → a.refusal ≢ done → a.records ≡ 0
sheet_none (good g e) k = absurd (k (ap (λ (a : SheetAnswer). a.refusal) e))
sheet_none (record_refused r l k e) h = ap (λ (a : SheetAnswer). a.records) e
sheet_none (not_next r l k b e) h = ap (λ (a : SheetAnswer). a.records) e
sheet_none (ended_early r l k e) h = ap (λ (a : SheetAnswer). a.records) e

module _ {sheet : List ℕ} {refused : ℕ → ℕ → Type 0} {answered : (n : ℕ) → Good sheet n → Type 0} (q : Query sheet refused answered) where
  pub query_in : {number : ℕ} → ((n o : ℕ) → refused n o → number ≡ n) → ((n : ℕ) (g : Good sheet n) → answered n g → number ≤ 15) → number ≤ 15
  query_in {number} f h = go q
    where
      go : Query sheet refused answered → number ≤ 15
      go (sheet_refused {a = a} s k x) = omega (arith, f a.refusal a.offset x, sheet_in s)
      go (sheet_good {n = n} g x) = h n g x

  pub query_offset : {offset : ℕ} → ((n o : ℕ) → refused n o → offset ≡ o) → ((n : ℕ) (g : Good sheet n) → answered n g → offset ≡ 0) → OffsetOf sheet offset
  query_offset {offset} f h a s = go q
    where
      go : Query sheet refused answered → offset ≡ a.offset
      go (sheet_refused {a = b} t k x) = f b.refusal b.offset x ∙ ap (λ (a : SheetAnswer). a.offset) (sheet_determined sheet b a t s)
      go (sheet_good {n = n} g x) = h n g x ∙ ap (λ (a : SheetAnswer). a.offset) (sheet_determined sheet (told done 0 n) a (good g refl) s)

-- the refusal of a query, where a good sheet is refused by its point alone
module _ (r : Refused) {sheet : List ℕ} {answered : (n : ℕ) → Good sheet n → Type 0} (q : Query sheet (Tells r) answered) (by_point : (n : ℕ) (g : Good sheet n) → answered n g → Tells r refused_point 0) where
  pub told_in : number_of r.refusal ≤ 15
  told_in = query_in q (λ n o e. e.0) (λ n g x. omega (arith, (by_point n g x).0))

  pub told_offset : OffsetOf sheet r.offset
  told_offset = query_offset q (λ n o e. e.1) (λ n g x. (by_point n g x).1)
