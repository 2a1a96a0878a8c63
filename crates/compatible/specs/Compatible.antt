-- Document 01, "Sheets" and "Refusal numbers": what the compatibility test answers. The rule of a compatible sheet stands in
-- rings/specs/Compatible.antt.
use Rattle.std.specs.Prelude.{◌≡◌, List, ℕ}
use Rattle.bisection.specs.Refusals.{done}
use Rattle.sheets.specs.Forests.{TreeCell}
use Rattle.sheets.specs.Sheets.{Query}
use Rattle.rings.specs.Compatible.{Compatible}
use Rattle.compatible.specs.declared.CompatibleAnswer.{CompatibleAnswer}

abbrev pub yes_or_no : ℕ → ℕ → ℕ → CompatibleAnswer
yes_or_no refusal offset compatible = record { refusal = refusal; compatible = compatible; offset = offset }

-- yes, 1, exactly where the leaves of a good sheet are compatible; no is 0
pub data Judges (leaves : List TreeCell) (r : CompatibleAnswer) : Type 0 where
  yes_all : Compatible leaves → r ≡ yes_or_no done 0 1 → Judges leaves r
  not_all : (Compatible leaves → ⊥) → r ≡ yes_or_no done 0 0 → Judges leaves r

-- the contract of the compatibility test
abbrev pub CompatibleIs : List ℕ → CompatibleAnswer → Type 0
CompatibleIs sheet r = Query sheet (λ number offset. r ≡ yes_or_no number offset 0) (λ n g. Judges g.cells r)
