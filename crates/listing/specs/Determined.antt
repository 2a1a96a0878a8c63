-- The listing's contract determines the output, its length and every cell of the buffer.
use Rattle.std.specs.Prelude.{◌≡◌, refl, List, ◌++◌, ℕ, length, drop}
use Rattle.std.proofs.Common.{sym, ap, ◌∙◌, arith}
use Rattle.sheets.specs.declared.SheetAnswer.{SheetAnswer}
use Rattle.sheets.specs.Theorems.Determined.{sheet_determined, not_both}
use Rattle.sheets.specs.Theorems.Good.{same_cells, same_axes}
use Rattle.listing.specs.Texts.{good_text, refused_text, Listing, large, refused, good, Lists}

pub one_listing : {sheet text text' : List ℕ} → Listing sheet text → Listing sheet text' → text ≡ text'
one_listing (large h) (large h') = refl
one_listing (large h) (refused l r is x) = absurd (omega arith)
one_listing (large h) (good l g) = absurd (omega arith)
one_listing (refused l r is x) (large h) = absurd (omega arith)
one_listing {sheet} (refused l r is x) (refused l' r' is' x') = ap (λ (a : SheetAnswer). refused_text a.refusal a.offset) (sheet_determined sheet r r' is is')
one_listing (refused l r is x) (good l' g) = absurd (not_both is x g)
one_listing (good l g) (large h) = absurd (omega arith)
one_listing (good l g) (refused l' r is x) = absurd (not_both is x g)
one_listing (good l g) (good l' g') = ap (λ (d : ℕ). good_text d g.cells) (same_axes g g') ∙ ap (good_text g'.dimension) (same_cells g g')

pub listing_determined : (sheet out : List ℕ) (r s : ℕ) (out' out'' : List ℕ) → Lists sheet out r out' → Lists sheet out s out'' → (r ≡ s) × (out' ≡ out'')
listing_determined sheet out r s out' out'' a b = (a.length_is ∙ ap length e ∙ sym b.length_is, a.front ∙ ap (λ (t : List ℕ). t ++ drop (length t) out) e ∙ sym b.front)
  where
    e : a.text ≡ b.text
    e = one_listing a.listing b.listing
