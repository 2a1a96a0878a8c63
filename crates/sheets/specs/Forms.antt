-- The answer of the sheet check in the form that a C program has of it: the refusal's number and where the refused record begins, or how
-- many records there are.
use Rattle.std.specs.Prelude.{◌≡◌, ℕ, Result, Ok, Err}
use Rattle.std.proofs.Common.{sym, ap}
use Rattle.bisection.specs.declared.Refused.{Refused}
use Rattle.bisection.specs.Refusals.{done}
use Rattle.bisection.specs.Numbers.{number_of}
use Rattle.bisection.specs.NumberLaws.{refuses, one_refusal}
use Rattle.sheets.specs.declared.SheetAnswer.{SheetAnswer}

abbrev pub sheet_answer : Result ℕ Refused → SheetAnswer
sheet_answer (Ok n) = record { refusal = done; offset = 0; records = n }
sheet_answer (Err r) = record { refusal = number_of r.refusal; offset = r.offset; records = 0 }

-- two answers with the same form are equal
pub one_sheet_answer : (a b : Result ℕ Refused) → sheet_answer a ≡ sheet_answer b → a ≡ b
one_sheet_answer (Ok n) (Ok m) e = ap Ok (ap (λ (a : SheetAnswer). a.records) e)
one_sheet_answer (Ok n) (Err r) e = absurd (refuses r.refusal (sym (ap (λ (a : SheetAnswer). a.refusal) e)))
one_sheet_answer (Err r) (Ok n) e = absurd (refuses r.refusal (ap (λ (a : SheetAnswer). a.refusal) e))
one_sheet_answer (Err r) (Err s) e = λ i. Err (record {
  refusal = one_refusal r.refusal s.refusal (ap (λ (a : SheetAnswer). a.refusal) e) i;
  offset = ap (λ (a : SheetAnswer). a.offset) e i;
})
