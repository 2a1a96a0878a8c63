-- Codes and their cells: a code that passes has a cell, and one alone; a code that has a cell passes; and equal cells
-- have equal codes.
use Rattle.std.specs.Prelude.{◌≡◌, refl, List, ℕ}
use Rattle.std.proofs.Common.{sym, ◌∙◌}
use Rattle.bisection.specs.Cells.{Cell, cell_of}
use Rattle.bisection.specs.Refusals.{done, code_refusal}
use Rattle.bisection.specs.Facets.{IsCell}
use Rattle.bisection.specs.Theorems.CodePaths.{root_of, path_of}
use Rattle.bisection.proofs.Theorems.CodePaths.{code_passes, code_path, one_path}
use Rattle.bisection.proofs.Theorems.OneCode.{one_code}

-- a code that passes has a cell, and a code that has a cell passes
pub code_cell : (code : List ℕ) → code_refusal code ≡ done → IsCell code (cell_of (root_of code) (path_of code))
code_cell code e = record { root = root_of code; path = path_of code; is_code = code_path code e; is = refl }

pub cell_passes : {code : List ℕ} {vs : Cell} → IsCell code vs → code_refusal code ≡ done
cell_passes c = rw c.is_code.is (code_passes c.root c.path c.is_code.good_root c.is_code.good_path)

-- one cell to a code, one code to a cell
pub one_cell : {code : List ℕ} {vs ws : Cell} → IsCell code vs → IsCell code ws → vs ≡ ws
one_cell c c' = c.is ∙ (rw ((one_path c.is_code c'.is_code).0, (one_path c.is_code c'.is_code).1) refl) ∙ sym c'.is

pub same_code : {code code' : List ℕ} {vs ws : Cell} → IsCell code vs → IsCell code' ws → vs ≡ ws → code ≡ code'
same_code c c' e = one_code c.is_code c'.is_code (sym c.is ∙ e ∙ c'.is)
