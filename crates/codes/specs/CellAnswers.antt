-- The outcomes of writing a cell's vertices: one law for each way out of the code.
use Rattle.std.specs.Prelude.{◌≡◌, List, ◌++◌, ◌≢◌, ℕ, Ok, Err, ◌≤◌, ◌<◌, length}
use Rattle.std.proofs.Math.Path.{refl, sym, ap}
use Rattle.std.proofs.Common.{◌∙◌, arith, le-leb}
use Rattle.std.proofs.Math.ListN.{drop}
use Rattle.std.proofs.lemmas.Bool.{lt-leb}
use Rattle.dimension.specs.Sizes.{points_length}
use Rattle.bisection.specs.Cells.{cell_of, cell_bytes}
use Rattle.bisection.specs.Codes.{dimension_of}
use Rattle.bisection.specs.Refusals.{done, code_refusal}
use Rattle.bisection.specs.declared.Refusal.{Refusal}
use Rattle.bisection.specs.declared.Refusal.TheVariants.{Short}
use Rattle.bisection.specs.Numbers.{number_of}
use Rattle.bisection.specs.NumberLaws.{refuses}
use Rattle.bisection.specs.Theorems.Ladders.{all_hold, holds, fails, past, stops}
use Rattle.bisection.proofs.Theorems.Ladders.{first_is}
use Rattle.bisection.specs.Theorems.CodePaths.{root_of, path_of}
use Rattle.bisection.proofs.Theorems.CodePaths.{code_path}
use Rattle.codes.specs.declared.Written.{Written}
use Rattle.codes.specs.Forms.{written}
use Rattle.codes.specs.Outcomes.{Vertices, vertices_refusal}
use Rattle.codes.specs.Writing.{number_answers, refused_answers, done_answers}
use Rattle.corners.specs.Drawing.{CellWritten, cell_long}

-- the ways out, in document 01's order
module _ (code before : List ℕ) where
  -- the code's own number, and any answer that tells it
  pub vertices_told : {x : ℕ} {r : Written} → x ≡ code_refusal code → x ≢ done → (r.refusal ≡ x) × (r.length ≡ 0) → Vertices code before r before
  unfolding vertices_refusal
  vertices_told e n f = number_answers (first_is (stops (sym e) n)) n f

  -- a refusal that is the code's own
  pub vertices_own : (x : Refusal) → number_of x ≡ code_refusal code → Vertices code before (written (Err x)) before
  vertices_own x e = vertices_told e (refuses x) (refl, refl)

  -- as the code has the code's refusal, its dimension and the points' length
  module _ {d n : ℕ} (e : done ≡ code_refusal code) (axes : d ≡ dimension_of code) (long : n ≡ points_length d) where
    p : code_refusal code ≡ done
    p = sym e

    size : points_length (dimension_of code) ≡ n
    size = rw (← axes, long) refl

    pub vertices_short : length before < n → Vertices code before (written (Err Short)) before
    unfolding vertices_refusal
    vertices_short h = refused_answers Short (first_is (past p (fails (lt-leb (points_length (dimension_of code)) (length before) (omega (arith, size))))))

    pub vertices_ready : n ≤ length before → points_length (dimension_of code) ≤ length before
    vertices_ready h = omega (arith, size)

    pub vertices_done : {after : List ℕ} → n ≤ length before → CellWritten code before after → Vertices code before (written (Ok n)) after
    unfolding vertices_refusal
    vertices_done h w = done_answers (cell_bytes (cell_of (root_of code) (path_of code)))
        (first_is (past p (holds (le-leb (points_length (dimension_of code)) (length before) (omega (arith, size))) all_hold)))
        (sym size ∙ sym (cell_long code p))
        (w.is ∙ ap (λ (m : ℕ). cell_bytes (cell_of (root_of code) (path_of code)) ++ drop m before) size)
        (record { root = root_of code; path = path_of code; is_code = code_path code p; is = refl })
