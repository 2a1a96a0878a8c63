-- Idle programs, as document 01 lists them: a program that answers without doing the work does not meet its contract. A program is what
-- it answers to each input; each part says that if it met the contract on every input, there would be a contradiction.
use Rattle.std.specs.Prelude.{◌≡◌, List, ◌++◌, ◌≢◌, ℕ, length, take, drop}
use Rattle.bisection.specs.Codes.{code_of}
use Rattle.bisection.specs.Refusals.{done}
use Rattle.codes.specs.declared.Written.{Written}
use Rattle.codes.specs.declared.PathWritten.{PathWritten}
use Rattle.codes.specs.Outcomes.{PathToCode, CodeToPath}
use Rattle.crossing.specs.declared.Vertex.{Vertex}
use Rattle.crossing.specs.Outcome.{nowhere, Crosses}
use Rattle.sheets.specs.declared.SheetAnswer.{SheetAnswer}
use Rattle.sheets.specs.Sheets.{SheetIs, Good}
use Rattle.compatible.specs.declared.CompatibleAnswer.{CompatibleAnswer}
use Rattle.compatible.specs.Compatible.{CompatibleIs}

pub record NoIdleProgram : Type 0 where
  -- one that refuses everything, with whatever number: a path (demand 2), a crossing (demand 3)
  pub refuses_paths : (number : ℕ) → number ≢ done → ((root path before : List ℕ) → PathToCode root path before (record { refusal = number; length = 0 }) before) → ⊥
  pub refuses_crossings : (number : ℕ) → number ≢ done
      → ((code : List ℕ) (i : ℕ) (before : List ℕ) → Crosses code i before (record { refusal = number; place = 0; length = 0; vertex = nowhere }) before) → ⊥
  -- one that returns a fixed root
  pub fixed_root : (root : List ℕ) (r : List ℕ → PathWritten) (path : List ℕ → List ℕ) → ((code roots paths : List ℕ) → CodeToPath code roots paths (r code) (root ++ drop (length root) roots) (path code)) → ⊥
  -- a crossing that hands back its own cell
  pub own_cell : (place : List ℕ → ℕ → ℕ) (vertex : List ℕ → ℕ → Vertex)
      → ((code : List ℕ) (i : ℕ) (before : List ℕ) → Crosses code i before (record { refusal = done; place = place code i; length = length code; vertex = vertex code i }) (code ++ drop (length code) before)) → ⊥
  -- one that writes nothing
  pub writes_nothing : (r : List ℕ → List ℕ → Written) → ((root path before : List ℕ) → PathToCode root path before (r root path) before) → ⊥
  -- a path reader that honours only its first step
  pub first_step : (r : List ℕ → List ℕ → Written) → ((root path before : List ℕ) → PathToCode root path before (r root path) (code_of root (take 1 path) ++ drop (length (code_of root (take 1 path))) before)) → ⊥
  -- a compatibility test that says yes, or no, to all
  pub yes_to_all : (r : List ℕ → CompatibleAnswer) → ((sheet : List ℕ) (n : ℕ) → Good sheet n → (r sheet).compatible ≡ 1) → ((sheet : List ℕ) → CompatibleIs sheet (r sheet)) → ⊥
  pub no_to_all : (r : List ℕ → CompatibleAnswer) → ((sheet : List ℕ) (n : ℕ) → Good sheet n → (r sheet).compatible ≡ 0) → ((sheet : List ℕ) → CompatibleIs sheet (r sheet)) → ⊥
  -- a leaf count out of thin air
  pub thin_air : (count : ℕ) (r : List ℕ → SheetAnswer) → ((sheet : List ℕ) (n : ℕ) → Good sheet n → (r sheet).records ≡ count) → ((sheet : List ℕ) → SheetIs sheet (r sheet)) → ⊥
