-- The child: one law for each way out of the code, and that it is the code of the path with one step more.
use Rattle.std.specs.Prelude.{◌≡◌, refl, List, ◌++◌, ◌≢◌, ℕ, Ok, Err, suc, ◌+◌, ◌≤◌, ◌<◌, length}
use Rattle.std.proofs.Common.{sym, ◌∙◌, arith, add-one, length-append, le-leb, lt-ltb, le-ltb}
use Rattle.std.proofs.Math.Path.{ap}
use Rattle.std.proofs.Math.ListN.{drop}
use Rattle.std.proofs.lemmas.Bool.{lt-leb}
use Rattle.dimension.specs.Sizes.{greatest_depth, code_length}
use Rattle.bisection.specs.Codes.{step, bytes, dimension_of, depth_of, parts_of}
use Rattle.bisection.specs.Refusals.{done, code_refusal}
use Rattle.bisection.specs.declared.Refusal.{Refusal}
use Rattle.bisection.specs.declared.Refusal.TheVariants.{Step, Deepest, Short}
use Rattle.bisection.specs.Numbers.{number_of}
use Rattle.bisection.specs.NumberLaws.{refuses}
use Rattle.bisection.specs.Theorems.Ladders.{all_hold, holds, fails, past, stops}
use Rattle.bisection.proofs.Theorems.Ladders.{first_is}
use Rattle.bisection.specs.Theorems.Passing.{Passes}
use Rattle.bisection.proofs.Theorems.Passing.{step_passes}
use Rattle.bisection.specs.Theorems.CodePaths.{child_code, root_of, path_of}
use Rattle.bisection.proofs.Theorems.CodePaths.{code_path, child_code_is}
use Rattle.entries.specs.Passed.{Checked, checked}
use Rattle.codes.specs.declared.Written.{Written}
use Rattle.codes.specs.Forms.{written}
use Rattle.codes.specs.Outcomes.{Child, ChildOf, child_refusal}
use Rattle.codes.specs.Writing.{number_answers, refused_answers, done_answers}

-- the child's code has the length that its depth gives
pub child_length : (code : List ℕ) (b : ℕ) → code_refusal code ≡ done → code_length (dimension_of code) (suc (depth_of code)) ≡ length (child_code b code)
unfolding child_code bytes code_length
child_length code b e = sym (simp length-append (omega (arith, p.signed.size, p.boxes.count)))
  where
    k : Checked code
    k = checked code e

    p : Passes (dimension_of code) (suc (depth_of code)) (step (dimension_of code) (depth_of code) b (parts_of code))
    p = step_passes (dimension_of code) (depth_of code) (omega (arith, k.range.two)) (omega (arith, k.range.few)) (parts_of code) k.good.passes b

-- the step of the code's bytes is the code of the path with one step more
pub child_of : (code : List ℕ) (which : ℕ) → code_refusal code ≡ done → ChildOf which code (child_code which code)
child_of code which e =
    let c = code_path code e in
    record { root = root_of code; path = path_of code; is_code = c; is = ap (child_code which) c.is ∙ sym (child_code_is (root_of code) (path_of code) c.good_root which) }

-- the ways out, in document 01's order
module _ (code : List ℕ) (which : ℕ) (before : List ℕ) where
  -- the code's own number, and any answer that tells it
  pub child_told : {x : ℕ} {r : Written} → x ≡ code_refusal code → x ≢ done → (r.refusal ≡ x) × (r.length ≡ 0) → Child code which before r before
  unfolding child_refusal
  child_told e n f = number_answers (first_is (stops (sym e) n)) n f

  -- a refusal that is the code's own
  pub child_own : (x : Refusal) → number_of x ≡ code_refusal code → Child code which before (written (Err x)) before
  child_own x e = child_told e (refuses x) (refl, refl)

  -- as the code has the code's refusal
  module _ (e : done ≡ code_refusal code) where
    p : code_refusal code ≡ done
    p = sym e

    pub child_step : 1 < which → Child code which before (written (Err Step)) before
    unfolding child_refusal
    child_step h = refused_answers Step (first_is (past p (fails (lt-leb which 1 h))))

    -- as the code has the dimension, the depth and the greatest depth; then the child's length
    module _ (w : which ≤ 1) {d D g : ℕ} (axes : d ≡ dimension_of code) (depth : D ≡ depth_of code) (greatest : g ≡ greatest_depth d) where
      limit : greatest_depth (dimension_of code) ≡ g
      limit = rw (← axes, greatest) refl

      pub child_deepest : g ≤ D → Child code which before (written (Err Deepest)) before
      unfolding child_refusal
      child_deepest h = refused_answers Deepest (first_is (past p (holds (le-leb which 1 w) (fails (le-ltb (depth_of code) (greatest_depth (dimension_of code)) (omega (arith, limit)))))))

      module _ (l : D < g) {n : ℕ} (long : n ≡ code_length d (D + 1)) where
        deeper : depth_of code < greatest_depth (dimension_of code)
        deeper = omega (arith, limit)

        size : code_length (dimension_of code) (suc (depth_of code)) ≡ n
        size = rw (← axes, ← depth, ← add-one D, long) refl

        pub child_short : length before < n → Child code which before (written (Err Short)) before
        unfolding child_refusal
        child_short h = refused_answers Short (first_is (past p (holds (le-leb which 1 w) (holds (lt-ltb (depth_of code) (greatest_depth (dimension_of code)) deeper)
            (fails (lt-leb (code_length (dimension_of code) (suc (depth_of code))) (length before) (omega (arith, size))))))))

        pub child_done : {after : List ℕ} → n ≤ length before → after ≡ child_code which code ++ drop (code_length (dimension_of code) (suc (depth_of code))) before
            → Child code which before (written (Ok n)) after
        unfolding child_refusal
        child_done h g = done_answers (child_code which code) (first_is (past p (holds (le-leb which 1 w) (holds (lt-ltb (depth_of code) (greatest_depth (dimension_of code)) deeper)
            (holds (le-leb (code_length (dimension_of code) (suc (depth_of code))) (length before) (omega (arith, size))) all_hold)))))
            (sym size ∙ child_length code which p) (g ∙ ap (λ (m : ℕ). child_code which code ++ drop m before) size) (child_of code which p)
