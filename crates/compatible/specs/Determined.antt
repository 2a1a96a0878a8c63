-- The compatibility test leaves nothing open: two answers that its contract allows are equal.
use Rattle.std.specs.Prelude.{◌≡◌, List, ℕ}
use Rattle.std.proofs.Common.{sym, ◌∙◌, subst}
use Rattle.sheets.specs.Forests.{TreeCell}
use Rattle.sheets.specs.Theorems.Good.{same_cells}
use Rattle.sheets.specs.Theorems.Determined.{query_one}
use Rattle.compatible.specs.declared.CompatibleAnswer.{CompatibleAnswer}
use Rattle.compatible.specs.Compatible.{Judges, yes_all, not_all, CompatibleIs}

judges_one : {leaves : List TreeCell} {r r' : CompatibleAnswer} → Judges leaves r → Judges leaves r' → r ≡ r'
judges_one (yes_all c q) (yes_all c' q') = q ∙ sym q'
judges_one (yes_all c q) (not_all n q') = absurd (n c)
judges_one (not_all n q) (yes_all c q') = absurd (n c)
judges_one (not_all n q) (not_all n' q') = q ∙ sym q'

pub compatible_determined : {sheet : List ℕ} {r r' : CompatibleAnswer} → CompatibleIs sheet r → CompatibleIs sheet r' → r ≡ r'
compatible_determined {r' = r'} a b = query_one a b (λ number offset q q'. q ∙ sym q') (λ n m g h x y. judges_one x (subst (λ (cs : List TreeCell). Judges cs r') (sym (same_cells g h)) y))
