-- The first record of a good sheet: it passes its own tests, and is of the sheet's dimension.
use Rattle.std.specs.Prelude.{◌≡◌, refl, List, ℕ, ◌<◌, length}
use Rattle.std.proofs.Common.{sym, ap, ◌∙◌, arith}
use Rattle.dimension.specs.Sizes.{axes_of}
use Rattle.bisection.specs.Refusals.{done}
use Rattle.codes.specs.Fronts.{front_dimension, front_code}
use Rattle.codes.specs.Fronts.Laws.{front_code_dimension, front_root}
use Rattle.sheets.specs.declared.RecordParts.{RecordParts}
use Rattle.sheets.specs.Forests.{TreeCell}
use Rattle.sheets.specs.Sheets.{behind_mark, record_refusal, GoodSheet}
use Rattle.sheets.specs.Steps.{PartsAre}
use Rattle.sheets.specs.Theorems.Listing.{code_of_cell, Listed, listed_none, listed_more, record_passes, record_code, CellsIn, cells_none, cells_more, records_listed, leaves_cells}
use Rattle.sheets.specs.Theorems.Good.{good_some}

module _ {mark : List ℕ} {width : ℕ} {sheet : List ℕ} {records : ℕ} (good : GoodSheet mark width sheet records) where
  cells_in : CellsIn good.dimension good.cells
  cells_in = leaves_cells good.dimension good.has_dimension good.leaves

  pub good_listed : Listed mark width good.cells sheet
  good_listed = records_listed cells_in good.records

  -- the first record passes its own tests, and is of the sheet's dimension
  pub record First : Type 0 where
    pub passes : record_refusal mark width sheet ≡ done
    pub dimension_is : (p : RecordParts) → PartsAre mark width sheet p → axes_of p.dim ≡ good.dimension

  pub first_record : First
  first_record = go (good_some good) cells_in good_listed refl
    where
      go : {cs : List TreeCell} {s : List ℕ} → 0 < length cs → CellsIn good.dimension cs → Listed mark width cs s → sheet ≡ s → First
      go h cells_none listed_none i = absurd (omega arith)
      go h (cells_more k q m) (listed_more {c = c} {rest = rest} g samples z e' l) i = let e = i ∙ e' in record {
        passes = rw e (record_passes mark width c g samples rest z);
        dimension_is = λ p are. are.dimension_is ∙ sym (front_code_dimension (behind_mark mark sheet)) ∙ ap (λ (s : List ℕ). front_dimension (front_code (behind_mark mark s))) e ∙ ap front_dimension (record_code mark width c g samples rest z) ∙ front_root (code_of_cell g) ∙ q;
      }
