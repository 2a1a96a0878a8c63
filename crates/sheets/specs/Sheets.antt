-- Document 01, "Sheets" and "Refusal numbers": records, good sheets, the next leaf, a record's own tests in their
-- order, and what the sheet check answers. The mark and the sample width are parameters: 43 4C (hex) and 2 today.
use Rattle.std.specs.Prelude.{◌≡◌, Bool, true, false, ◌&&◌, List, [], ◌∷◌, ◌++◌, ◌≢◌, ℕ, zero, suc, ◌+◌, ◌*◌, ◌<◌, eqb, leb, length, get_or, take, drop}
use Rattle.dimension.specs.Sizes.{is_dimension, greatest_depth}
use Rattle.bisection.specs.Roots.{roots}
use Rattle.bisection.specs.Codes.{code_of}
use Rattle.bisection.specs.Refusals.{done, refused_record, refused_leaf, need, own, first_refusal}
use Rattle.codes.specs.Fronts.{front_refusal, front_dimension, front_length, front_code, inner_refusal}
use Rattle.sheets.specs.Forests.{TreeCell, tree_cell, Leaves}
use Rattle.sheets.specs.declared.SheetAnswer.{SheetAnswer}

-- two mark bytes
abbrev pub sheet_mark : List ℕ
sheet_mark = 0x43 ∷ 0x4C ∷ []

-- a grey sample is 16 bits
abbrev pub sample_width : ℕ
sample_width = 2

-- the records of the leaves, one after the other: the mark, the code, then d + 1 samples, which may be any
pub data Records (mark : List ℕ) (width d : ℕ) : List TreeCell → List ℕ → Type 0 where
  none : Records mark width d [] []
  more : {c : TreeCell} {cs : List TreeCell} {rest sheet : List ℕ} (samples : List ℕ) → length samples ≡ width * suc d → sheet ≡ mark ++ (code_of c.root c.path ++ (samples ++ rest)) → Records mark width d cs rest → Records mark width d (c ∷ cs) sheet

-- the sample bytes of record i
unfoldable pub samples_of : {mark : List ℕ} {width d : ℕ} {cs : List TreeCell} {sheet : List ℕ} → Records mark width d cs sheet → ℕ → List ℕ
samples_of none i = []
samples_of (more samples size is rest) zero = samples
samples_of (more samples size is rest) (suc i) = samples_of rest i

-- a good sheet of n records: it lists, in tree order, the leaves of a forest on all roots of a dimension
pub record GoodSheet (mark : List ℕ) (width : ℕ) (sheet : List ℕ) (n : ℕ) : Type 0 where
  pub dimension : ℕ
  pub has_dimension : is_dimension dimension ≡ true
  pub cells : List TreeCell
  pub leaves : Leaves (roots dimension) (greatest_depth dimension) cells
  pub records : Records mark width dimension cells sheet
  pub count : length cells ≡ n

-- leaf i of a list
abbrev pub leaf_in : List TreeCell → ℕ → TreeCell
leaf_in cs i = get_or cs i (tree_cell [] [])

-- a record is the next leaf when some good sheet begins with the records up to and including it
pub record Begins (mark : List ℕ) (width : ℕ) (front : List ℕ) : Type 0 where
  pub rest : List ℕ
  pub count : ℕ
  pub good : GoodSheet mark width (front ++ rest) count

unfoldable pub begins_with : List ℕ → List ℕ → Bool
begins_with [] bs = true
begins_with (m ∷ mark) [] = false
begins_with (m ∷ mark) (b ∷ bs) = eqb b m && begins_with mark bs

-- what stands behind the mark
unfoldable pub behind_mark : List ℕ → List ℕ → List ℕ
behind_mark mark bs = drop (length mark) bs

-- the bytes begin with the mark, and two more bytes follow it
unfoldable pub is_marked : List ℕ → List ℕ → Bool
is_marked mark bs = begins_with mark bs && leb 2 (length (behind_mark mark bs))

-- how many bytes the code at the front of the bytes and its samples have
unfoldable pub body_length : ℕ → List ℕ → ℕ
body_length width bs = front_length bs + width * suc (front_dimension bs)

unfoldable pub record_length : List ℕ → ℕ → List ℕ → ℕ
record_length mark width bs = length mark + body_length width (behind_mark mark bs)

-- the tests behind the mark: 1, 2, 13 (code cut), 4, 5, 6, 13 (samples cut)
unfoldable pub unmarked_refusal : ℕ → List ℕ → ℕ
unmarked_refusal width bs = first_refusal (
    own (front_refusal bs)
    ∷ need (leb (front_length bs) (length bs)) refused_record
    ∷ own (inner_refusal (front_code bs))
    ∷ need (leb (body_length width bs) (length bs)) refused_record
    ∷ [])

-- a record's own tests: 13 (mark, or fewer than two bytes after it), 1, 2, 13 (code cut), 4, 5, 6, 13 (samples cut)
unfoldable pub record_refusal : List ℕ → ℕ → List ℕ → ℕ
record_refusal mark width bs = first_refusal (
    need (is_marked mark bs) refused_record
    ∷ own (unmarked_refusal width (behind_mark mark bs))
    ∷ [])

-- n records read, up to an offset: each passes its own tests and is the next leaf
pub data Read (mark : List ℕ) (width : ℕ) (sheet : List ℕ) : ℕ → ℕ → Type 0 where
  start : Read mark width sheet 0 0
  next : {at n to : ℕ} → Read mark width sheet at n → record_refusal mark width (drop at sheet) ≡ done → to ≡ at + record_length mark width (drop at sheet) → Begins mark width (take to sheet) → Read mark width sheet to (suc n)

abbrev pub told : ℕ → ℕ → ℕ → SheetAnswer
told refusal offset records = record { refusal = refusal; offset = offset; records = records }

-- what the sheet check answers: the number of records of a good sheet; otherwise the first refusal in reading order,
-- a record's own or 14, and where the record begins, which for an early end is the sheet's length
pub data Checks (mark : List ℕ) (width : ℕ) (sheet : List ℕ) (r : SheetAnswer) : Type 0 where
  good : {n : ℕ} → GoodSheet mark width sheet n → r ≡ told done 0 n → Checks mark width sheet r
  record_refused : {at n : ℕ} → Read mark width sheet at n → at < length sheet → record_refusal mark width (drop at sheet) ≢ done → r ≡ told (record_refusal mark width (drop at sheet)) at 0 → Checks mark width sheet r
  not_next : {at n : ℕ} → Read mark width sheet at n → at < length sheet → record_refusal mark width (drop at sheet) ≡ done → (Begins mark width (take (at + record_length mark width (drop at sheet)) sheet) → ⊥) → r ≡ told refused_leaf at 0 → Checks mark width sheet r
  ended_early : {at n : ℕ} → Read mark width sheet at n → at ≡ length sheet → ((m : ℕ) → GoodSheet mark width sheet m → ⊥) → r ≡ told refused_leaf at 0 → Checks mark width sheet r

-- the contract of the sheet check
abbrev pub SheetIs : List ℕ → SheetAnswer → Type 0
SheetIs sheet r = Checks sheet_mark sample_width sheet r

-- a good sheet of document 01's edition
abbrev pub Good : List ℕ → ℕ → Type 0
Good sheet n = GoodSheet sheet_mark sample_width sheet n

-- a query of a sheet: refused as the sheet check refuses, or answered from a good sheet
pub data Query (sheet : List ℕ) (refused : ℕ → ℕ → Type 0) (answered : (n : ℕ) → Good sheet n → Type 0) : Type 0 where
  sheet_refused : {a : SheetAnswer} → SheetIs sheet a → a.refusal ≢ done → refused a.refusal a.offset → Query sheet refused answered
  sheet_good : {n : ℕ} (g : Good sheet n) → answered n g → Query sheet refused answered
