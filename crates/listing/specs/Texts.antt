-- Document 01, "The listing program": what it writes of a sheet, byte by byte. The bytes are those of ASCII.
use Rattle.std.specs.Prelude.{◌≡◌, cond, List, [], ◌∷◌, ◌++◌, ◌≢◌, ℕ, zero, suc, ◌+◌, ◌/◌, ◌%◌, ◌≤◌, ◌<◌, ltb, length, drop}
use Rattle.bisection.specs.Codes.{code_of}
use Rattle.bisection.specs.Refusals.{done, refused_large}
use Rattle.sheets.specs.declared.SheetAnswer.{SheetAnswer}
use Rattle.sheets.specs.Forests.{TreeCell}
use Rattle.sheets.specs.Sheets.{sheet_mark, sample_width, GoodSheet, SheetIs}

abbrev pub sheet_limit : ℕ
sheet_limit = 65536

-- a digit below 16: 0 to 9, then small a to f
unfoldable pub digit : ℕ → ℕ
digit n = cond (ltb n 10) (0x30 + n) (0x57 + n)

-- a number in decimal, with no 0 in front; the fuel is more than its digits
unfoldable pub spelled : ℕ → ℕ → List ℕ
spelled zero n = []
spelled (suc fuel) n = cond (ltb n 10) [] (spelled fuel (n / 10)) ++ (digit (n % 10) ∷ [])

unfoldable pub decimal : ℕ → List ℕ
decimal n = spelled (suc n) n

-- bytes in hex, two digits each
unfoldable pub hex : List ℕ → List ℕ
hex [] = []
hex (b ∷ bs) = digit (b / 16) ∷ digit (b % 16) ∷ hex bs

abbrev pub space : List ℕ
space = 0x20 ∷ []

abbrev pub newline : List ℕ
newline = 0x0A ∷ []

-- "dim "
abbrev pub dim_word : List ℕ
dim_word = 0x64 ∷ 0x69 ∷ 0x6D ∷ 0x20 ∷ []

-- "leaves "
abbrev pub leaves_word : List ℕ
leaves_word = 0x6C ∷ 0x65 ∷ 0x61 ∷ 0x76 ∷ 0x65 ∷ 0x73 ∷ 0x20 ∷ []

-- "refused "
abbrev pub refused_word : List ℕ
refused_word = 0x72 ∷ 0x65 ∷ 0x66 ∷ 0x75 ∷ 0x73 ∷ 0x65 ∷ 0x64 ∷ 0x20 ∷ []

-- " at "
abbrev pub at_word : List ℕ
at_word = 0x20 ∷ 0x61 ∷ 0x74 ∷ 0x20 ∷ []

-- a word, a number, and the line's end
unfoldable pub number_line : List ℕ → ℕ → List ℕ
number_line word n = (word ++ decimal n) ++ newline

-- the record's number and its code
unfoldable pub leaf_line : ℕ → List ℕ → List ℕ
leaf_line n code = ((decimal n ++ space) ++ hex code) ++ newline

-- a line for each leaf, from a number on
unfoldable pub leaf_lines : ℕ → List TreeCell → List ℕ
leaf_lines n [] = []
leaf_lines n (c ∷ cs) = leaf_line n (code_of c.root c.path) ++ leaf_lines (suc n) cs

-- a good sheet: the dimension, the leaves, and how many they are
unfoldable pub good_text : ℕ → List TreeCell → List ℕ
good_text d cells = (number_line dim_word d ++ leaf_lines 0 cells) ++ number_line leaves_word (length cells)

-- a refused sheet: one line
unfoldable pub refused_text : ℕ → ℕ → List ℕ
refused_text refusal offset = (((refused_word ++ decimal refusal) ++ at_word) ++ decimal offset) ++ newline

-- the whole output for a sheet
pub data Listing (sheet : List ℕ) : List ℕ → Type 0 where
  large : sheet_limit < length sheet → Listing sheet (refused_text refused_large 0)
  refused : length sheet ≤ sheet_limit → (r : SheetAnswer) → SheetIs sheet r → r.refusal ≢ done → Listing sheet (refused_text r.refusal r.offset)
  good : {n : ℕ} → length sheet ≤ sheet_limit → (g : GoodSheet sheet_mark sample_width sheet n) → Listing sheet (good_text g.dimension g.cells)

-- the contract of the listing: the output stands at the front of the buffer, the cells past it keep their content
pub record Lists (sheet out : List ℕ) (r : ℕ) (out' : List ℕ) : Type 0 where
  pub text : List ℕ
  pub listing : Listing sheet text
  pub length_is : r ≡ length text
  pub front : out' ≡ text ++ drop (length text) out
