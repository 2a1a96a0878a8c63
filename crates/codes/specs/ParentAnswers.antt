-- The parent: one law for each way out of the code, and that it is the code of the path without its last step.
use Rattle.std.specs.Prelude.{◌≡◌, refl, List, [], ◌∷◌, ◌++◌, ◌≢◌, ℕ, Ok, Err, suc, ◌-◌, ◌≤◌, ◌<◌, length}
use Rattle.std.proofs.Math.Path.{sym, ap}
use Rattle.std.proofs.Common.{◌∙◌, subst, le-leb, lt-ltb, le-ltb}
use native.Mathlib.Omega.{arith}
use Rattle.std.proofs.Math.ListN.{drop, length-append}
use Rattle.std.proofs.lemmas.List.{get_or_at}
use Rattle.std.proofs.lemmas.Bool.{lt-leb}
use Rattle.dimension.specs.Sizes.{code_length}
use Rattle.bisection.specs.Codes.{bytes, dimension_of, depth_of, parts_of, IsCodeOf}
use Rattle.bisection.specs.Refusals.{done, code_refusal}
use Rattle.bisection.specs.declared.Refusal.{Refusal}
use Rattle.bisection.specs.declared.Refusal.TheVariants.{Root, Short}
use Rattle.bisection.specs.Numbers.{number_of}
use Rattle.bisection.specs.NumberLaws.{refuses}
use Rattle.bisection.specs.Theorems.Ladders.{all_hold, holds, fails, past, stops}
use Rattle.bisection.proofs.Theorems.Ladders.{first_is}
use Rattle.bisection.specs.Theorems.Passing.{Passes, last_step, parent_name}
use Rattle.bisection.proofs.Theorems.Passing.{parent_passes}
use Rattle.bisection.specs.Theorems.Paths.{path_to}
use Rattle.bisection.proofs.Theorems.Paths.{path_suc}
use Rattle.bisection.specs.Theorems.CodePaths.{parent_code, root_of, path_of}
use Rattle.bisection.proofs.Theorems.CodePaths.{code_path, parent_code_is}
use Rattle.entries.specs.Passed.{Checked, checked}
use Rattle.codes.specs.declared.Written.{Written}
use Rattle.codes.specs.Forms.{written}
use Rattle.codes.specs.Outcomes.{parent_refusal, Parent, ParentOf}
use Rattle.codes.specs.Writing.{number_answers, refused_answers, done_answers}

-- the parent's code is that of the path without its last step
module _ (code : List ℕ) (e : code_refusal code ≡ done) (l : 0 < depth_of code) where
  c : IsCodeOf code (root_of code) (path_of code)
  c = code_path code e

  D : ℕ
  D = depth_of code - 1

  more : suc D ≡ depth_of code
  unfolding D
  more = omega arith

  up : List ℕ
  up = path_to (dimension_of code) D (parent_name (dimension_of code) D (parts_of code))

  last : ℕ
  last = last_step (dimension_of code) D (parts_of code)

  path_is : path_of code ≡ up ++ last ∷ []
  unfolding path_of up last
  path_is = ap (λ (j : ℕ). path_to (dimension_of code) j (parts_of code)) (sym more) ∙ path_suc (dimension_of code) D (parts_of code)

  child_of : IsCodeOf code (root_of code) (up ++ last ∷ [])
  child_of = subst (IsCodeOf code (root_of code)) path_is c

  last_step_is : last ≤ 1
  last_step_is = subst (λ (b : ℕ). b ≤ 1) (get_or_at up last [] 0 (length up) refl) (child_of.good_path.steps (length up) (simp length-append (omega arith)))

  pub parent_of : ParentOf code (parent_code code)
  parent_of = record {
    root = root_of code;
    path = up;
    last = last;
    is_code = child_of;
    is = ap parent_code child_of.is ∙ parent_code_is (root_of code) up child_of.good_root last last_step_is;
  }

  pub parent_length : code_length (dimension_of code) (depth_of code - 1) ≡ length (parent_code code)
  unfolding parent_code bytes code_length D
  parent_length = sym (simp length-append (omega (arith, p.signed.size, p.boxes.count)))
    where
      k : Checked code
      k = checked code e

      p : Passes (dimension_of code) D (parent_name (dimension_of code) D (parts_of code))
      p = parent_passes (dimension_of code) D (omega (arith, k.range.two)) (omega (arith, k.range.few)) (parts_of code)
          (subst (λ (j : ℕ). Passes (dimension_of code) j (parts_of code)) (sym more) k.good.passes)

-- the ways out, in document 01's order
module _ (code before : List ℕ) where
  -- the code's own number, and any answer that tells it
  pub parent_told : {x : ℕ} {r : Written} → x ≡ code_refusal code → x ≢ done → (r.refusal ≡ x) × (r.length ≡ 0) → Parent code before r before
  unfolding parent_refusal
  parent_told e n f = number_answers (first_is (stops (sym e) n)) n f

  -- a refusal that is the code's own
  pub parent_own : (x : Refusal) → number_of x ≡ code_refusal code → Parent code before (written (Err x)) before
  parent_own x e = parent_told e (refuses x) (refl, refl)

  -- as the code has the code's refusal and its depth
  module _ {D : ℕ} (e : done ≡ code_refusal code) (depth : D ≡ depth_of code) where
    p : code_refusal code ≡ done
    p = sym e

    pub parent_root : D ≡ 0 → Parent code before (written (Err Root)) before
    unfolding parent_refusal
    parent_root h = refused_answers Root (first_is (past p (fails (le-ltb 0 (depth_of code) (omega arith)))))

    -- as the code has the dimension and the parent's length
    module _ (l : D ≢ 0) {d n : ℕ} (axes : d ≡ dimension_of code) (long : n ≡ code_length d (D - 1)) where
      deep : 0 < depth_of code
      deep = omega arith

      size : code_length (dimension_of code) (depth_of code - 1) ≡ n
      size = rw (← axes, ← depth, long) refl

      pub parent_short : length before < n → Parent code before (written (Err Short)) before
      unfolding parent_refusal
      parent_short h = refused_answers Short (first_is (past p (holds (lt-ltb 0 (depth_of code) deep)
          (fails (lt-leb (code_length (dimension_of code) (depth_of code - 1)) (length before) (omega (arith, size)))))))

      pub parent_done : {after : List ℕ} → n ≤ length before → after ≡ parent_code code ++ drop (code_length (dimension_of code) (depth_of code - 1)) before
          → Parent code before (written (Ok n)) after
      unfolding parent_refusal
      parent_done h g = done_answers (parent_code code) (first_is (past p (holds (lt-ltb 0 (depth_of code) deep)
          (holds (le-leb (code_length (dimension_of code) (depth_of code - 1)) (length before) (omega (arith, size))) all_hold))))
          (sym size ∙ parent_length code p deep) (g ∙ ap (λ (m : ℕ). parent_code code ++ drop m before) size) (parent_of code p deep)
