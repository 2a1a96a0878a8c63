-- Nothing is left open: for every input, refused or not, two outcomes that an entry's contract allows are equal, the
-- answer and every lent cell. The theorems stand beside the entries; here they are one claim.
use Rattle.std.specs.Prelude.{◌≡◌, List, ℕ}
use Rattle.bisection.specs.Refusals.{code_refusal}
use Rattle.codes.specs.declared.PathWritten.{PathWritten}
use Rattle.codes.specs.Outcomes.{PathToCode, CodeToPath, Vertices, Child, Parent}
use Rattle.codes.specs.Determined.{code_check_determined, path_to_code_determined, code_to_path_determined, vertices_determined, child_determined, parent_determined}
use Rattle.crossing.specs.declared.Crossed.{Crossed}
use Rattle.crossing.specs.Outcome.{Crosses}
use Rattle.crossing.specs.Determined.{Same}
use Rattle.crossing.proofs.Determined.{determined}
use Rattle.sheets.specs.Sheets.{SheetIs}
use Rattle.sheets.specs.Theorems.Determined.{sheet_determined}
use Rattle.queries.specs.Queries.{LeafIs, ValueIs, FlatValueIs}
use Rattle.queries.specs.Determined.{leaf_determined, value_determined, flat_determined}
use Rattle.queries.specs.SlopeQueries.{SlopeIs, FlatSlopeIs}
use Rattle.queries.specs.SlopeDetermined.{slope_determined, flat_slope_determined}
use Rattle.compatible.specs.Compatible.{CompatibleIs}
use Rattle.compatible.specs.Determined.{compatible_determined}
use Rattle.listing.specs.Texts.{Lists}
use Rattle.listing.specs.Determined.{listing_determined}

-- a contract allows one answer, and one content of the lent cells
unfoldable pub OneAnswer : {A : Type 0} → (A → Type 0) → Type 0
OneAnswer {A} contract = (r r' : A) → contract r → contract r' → r ≡ r'

unfoldable pub OneOutcome : {A : Type 0} → (A → List ℕ → Type 0) → Type 0
OneOutcome {A} contract = (r r' : A) (after after' : List ℕ) → contract r after → contract r' after' → (r ≡ r') × (after ≡ after')

pub record EveryEntry : Type 0 where
  pub code_check : (code : List ℕ) → OneAnswer (λ (r : ℕ). r ≡ code_refusal code)
  pub path_to_code : (root path before : List ℕ) → OneOutcome (PathToCode root path before)
  pub code_to_path : (code roots paths : List ℕ) (r r' : PathWritten) (root root' path path' : List ℕ) → CodeToPath code roots paths r root path → CodeToPath code roots paths r' root' path' → (r ≡ r') × (root ≡ root') × (path ≡ path')
  pub vertices : (code before : List ℕ) → OneOutcome (Vertices code before)
  pub child : (code : List ℕ) (which : ℕ) (before : List ℕ) → OneOutcome (Child code which before)
  pub parent : (code before : List ℕ) → OneOutcome (Parent code before)
  pub cross : (code : List ℕ) (facet : ℕ) (before : List ℕ) → OneOutcome (Crosses code facet before)
  pub sheet_check : (sheet : List ℕ) → OneAnswer (SheetIs sheet)
  pub leaf_at : (sheet point before : List ℕ) → OneOutcome (LeafIs sheet point before)
  pub value_at : (sheet point : List ℕ) → OneAnswer (ValueIs sheet point)
  pub flat_value_at : (sheet point : List ℕ) → OneAnswer (FlatValueIs sheet point)
  pub slope_at : (sheet point : List ℕ) → OneAnswer (SlopeIs sheet point)
  pub flat_slope_at : (sheet point : List ℕ) → OneAnswer (FlatSlopeIs sheet point)
  pub compatible : (sheet : List ℕ) → OneAnswer (CompatibleIs sheet)
  pub list_sheet : (sheet before : List ℕ) → OneOutcome (Lists sheet before)

cross_one : {r r' : Crossed} {after after' : List ℕ} → Same r after r' after' → (r ≡ r') × (after ≡ after')
cross_one s = (λ i. record { refusal = s.refusal i; place = s.place i; length = s.size i; vertex = s.vertex i }, s.buffer)

pub nothing_open : EveryEntry
unfolding OneAnswer OneOutcome
nothing_open = record {
  code_check = λ code r r' a b. code_check_determined code a b;
  path_to_code = λ root path before r r' after after' a b. path_to_code_determined root path a b;
  code_to_path = λ code roots paths r r' root root' path path' a b. code_to_path_determined a b;
  vertices = λ code before r r' after after' a b. vertices_determined code a b;
  child = λ code which before r r' after after' a b. child_determined code which a b;
  parent = λ code before r r' after after' a b. parent_determined code a b;
  cross = λ code facet before r r' after after' a b. cross_one (determined a b);
  sheet_check = λ sheet r r' a b. sheet_determined sheet r r' a b;
  leaf_at = λ sheet point before r r' after after' a b. let s = leaf_determined a b in (s.answer, s.buffer);
  value_at = λ sheet point r r' a b. value_determined a b;
  flat_value_at = λ sheet point r r' a b. flat_determined a b;
  slope_at = λ sheet point r r' a b. slope_determined a b;
  flat_slope_at = λ sheet point r r' a b. flat_slope_determined a b;
  compatible = λ sheet r r' a b. compatible_determined a b;
  list_sheet = λ sheet before r r' after after' a b. listing_determined sheet before r r' after after' a b;
}
