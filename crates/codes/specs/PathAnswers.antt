-- Path to code and code to path: one law for each way out of the code.
use Rattle.std.specs.Prelude.{◌≡◌, refl, Bool, true, false, not, List, ◌++◌, ◌⊎◌, ◌≢◌, ℕ, Result, Ok, Err, IsErrAnd, ◌≤◌, ◌<◌, leb, length, get_or}
use Rattle.std.proofs.Common.{sym, ◌∙◌, subst, arith, inl, inr, length-append}
use Rattle.std.proofs.Math.Path.{ap}
use Rattle.std.proofs.Math.ListN.{drop}
use borrow.Author.Tests.{le-leb, lt-leb, not-true, not-false}
use Rattle.dimension.specs.declared.Dim.{Dim}
use Rattle.dimension.specs.Sizes.{is_dimension, axes_of, greatest_depth, code_length}
use Rattle.dimension.specs.Laws.{axes_dimension}
use Rattle.bisection.specs.Roots.{GoodRoot}
use Rattle.bisection.specs.Codes.{axis, minus, bytes, code_of, IsCodeOf, dimension_of, depth_of}
use Rattle.bisection.specs.Refusals.{done, each, permutes, code_refusal, is_root, is_path}
use Rattle.bisection.specs.declared.Refusal.{Refusal}
use Rattle.bisection.specs.declared.Refusal.TheVariants.{Dimension, Depth, Permutation, Step, Short}
use Rattle.bisection.specs.Numbers.{number_of}
use Rattle.bisection.specs.NumberLaws.{refuses}
use Rattle.bisection.specs.Theorems.Ladders.{all_hold, holds, fails, past, stops}
use Rattle.bisection.proofs.Theorems.Ladders.{first_is}
use Rattle.bisection.specs.Theorems.Entries.{Signed}
use Rattle.bisection.proofs.Theorems.Paths.{plain_axis}
use Rattle.bisection.proofs.Theorems.Checked.{both, each_at, permutes_signed}
use Rattle.bisection.specs.Theorems.CodePaths.{root_of, path_of}
use Rattle.bisection.proofs.Theorems.CodePaths.{name_passes, code_path, length_root, length_path_of}
use Rattle.codes.specs.declared.Lengths.{Lengths}
use Rattle.codes.specs.declared.PathWritten.{PathWritten}
use Rattle.codes.specs.Forms.{written, path_written}
use Rattle.codes.specs.Outcomes.{path_refusal, PathToCode, to_path_refusal, CodeToPath}
use Rattle.codes.specs.Writing.{refused_writes, done_writes}
use Rattle.steps.specs.Descents.{CodeReady}
use Rattle.steps.specs.Ascents.{PathStands}

-- a root's bytes are a good root
pub good_root : (root : List ℕ) → is_dimension (length root) ≡ true → is_root root ≡ true → GoodRoot root
unfolding is_root
good_root root d e = record {
  dimension = d;
  permutation = record {
    low = λ i l. subst (λ (a : ℕ). 1 ≤ a) (is i l) (s.low i l);
    high = λ i l. subst (λ (a : ℕ). a ≤ length root) (is i l) (s.high i l);
    apart = λ i j l m q. s.apart i j l m (is i l ∙ q ∙ sym (is j m));
  };
}
  where
    parts : (permutes (length root) root ≡ true) × (each (length root) (λ i. not (minus (get_or root i 0))) ≡ true)
    parts = both (permutes (length root) root) (each (length root) (λ i. not (minus (get_or root i 0)))) e

    s : Signed (length root) root
    s = permutes_signed (length root) root refl parts.0

    is : (i : ℕ) → i < length root → axis (get_or root i 0) ≡ get_or root i 0
    is i l = plain_axis (get_or root i 0) (not-true (minus (get_or root i 0)) (each_at (length root) (λ j. not (minus (get_or root j 0))) parts.1 i l))

pub code_of_length : (root path : List ℕ) → GoodRoot root → code_length (length root) (length path) ≡ length (code_of root path)
unfolding code_of bytes code_length
code_of_length root path r = sym (simp length-append (omega (arith, (name_passes r path).signed.size, (name_passes r path).boxes.count)))

-- path to code: the ways out, in document 01's order
module _ (root path before : List ℕ) where
  pub path_dimension : is_dimension (length root) ≡ false → PathToCode root path before (written (Err Dimension)) before
  unfolding path_refusal
  path_dimension e = refused_writes Dimension (first_is (fails e))

  -- as the code has the dimension and its greatest depth
  module _ (dim : Dim) (axes : axes_of dim ≡ length root) {g : ℕ} (greatest : g ≡ greatest_depth (axes_of dim)) where
    known : is_dimension (length root) ≡ true
    known = rw (← axes) (axes_dimension dim)

    limit : greatest_depth (length root) ≡ g
    limit = rw (← axes, greatest) refl

    pub path_depth : g < length path → PathToCode root path before (written (Err Depth)) before
    unfolding path_refusal
    path_depth h = refused_writes Depth (first_is (holds known (fails (lt-leb (length path) (greatest_depth (length root)) (omega (arith, limit))))))

    -- and what the tests of the root and the path find
    module _ (l : length path ≤ g) {rooted : Bool} (rooted_is : rooted ≡ is_root root) where
      deep : leb (length path) (greatest_depth (length root)) ≡ true
      deep = le-leb (length path) (greatest_depth (length root)) (omega (arith, limit))

      pub path_permutation : not rooted ≡ true → PathToCode root path before (written (Err Permutation)) before
      unfolding path_refusal
      path_permutation t = refused_writes Permutation (first_is (holds known (holds deep (fails (sym rooted_is ∙ not-true rooted t)))))

      module _ (t : not rooted ≡ false) {stepped : Bool} (stepped_is : stepped ≡ is_path path) where
        permuted : is_root root ≡ true
        permuted = sym rooted_is ∙ not-false rooted t

        root_good : GoodRoot root
        root_good = good_root root known permuted

        pub path_step : not stepped ≡ true → PathToCode root path before (written (Err Step)) before
        unfolding path_refusal
        path_step u = refused_writes Step (first_is (holds known (holds deep (holds permuted (fails (sym stepped_is ∙ not-true stepped u))))))

        -- and the code's length
        module _ (u : not stepped ≡ false) {n : ℕ} (long : n ≡ code_length (axes_of dim) (length path)) where
          steps : is_path path ≡ true
          steps = sym stepped_is ∙ not-false stepped u

          size : code_length (length root) (length path) ≡ n
          size = rw (← axes, long) refl

          pub path_short : length before < n → PathToCode root path before (written (Err Short)) before
          unfolding path_refusal
          path_short h = refused_writes Short (first_is (holds known (holds deep (holds permuted (holds steps
              (fails (lt-leb (code_length (length root) (length path)) (length before) (omega (arith, size)))))))))

          pub path_ready : n ≤ length before → CodeReady (axes_of dim) root path before
          path_ready h = record { axes = axes; good_root = root_good; depth = omega arith; room = rw (← long) h }

          pub path_done : {after : List ℕ} → n ≤ length before → after ≡ code_of root path ++ drop (code_length (axes_of dim) (length path)) before
              → PathToCode root path before (written (Ok n)) after
          unfolding path_refusal
          path_done h g = done_writes (code_of root path) (first_is (holds known (holds deep (holds permuted (holds steps
              (holds (le-leb (code_length (length root) (length path)) (length before) (omega (arith, size))) all_hold))))))
              (sym size ∙ code_of_length root path root_good) (g ∙ ap (λ (m : ℕ). code_of root path ++ drop m before) (sym long))

-- code to path: the ways out
module _ (code roots paths : List ℕ) where
  number_refused : {number : ℕ} {r : PathWritten} → to_path_refusal code (length roots) (length paths) ≡ number → number ≢ done
      → (r.refusal ≡ number) × (r.axes ≡ 0) × (r.depth ≡ 0) → CodeToPath code roots paths r roots paths
  number_refused e n f = record { number = f.0 ∙ sym e; refused = λ q. (f.1, f.2, refl, refl); written = λ q. absurd (n (sym e ∙ q)) }

  refused : (x : Refusal) → to_path_refusal code (length roots) (length paths) ≡ number_of x → CodeToPath code roots paths (path_written (Err x)) roots paths
  refused x e = number_refused e (refuses x) (refl, refl, refl)

  -- the code's own number, and any answer that tells it
  pub to_path_told : {x : ℕ} {r : PathWritten} → x ≡ code_refusal code → x ≢ done → (r.refusal ≡ x) × (r.axes ≡ 0) × (r.depth ≡ 0)
      → CodeToPath code roots paths r roots paths
  unfolding to_path_refusal
  to_path_told e n f = number_refused (first_is (stops (sym e) n)) n f

  -- a refusal that is the code's own
  pub to_path_own : (r : Result Lengths Refusal) (x : Refusal) → IsErrAnd r (λ y. y ≡ x) → number_of x ≡ code_refusal code → CodeToPath code roots paths (path_written r) roots paths
  to_path_own (Ok n) x is e = elim is [ ]
  to_path_own (Err y) x is e = to_path_told (ap number_of is ∙ e) (refuses y) (refl, refl, refl)

  -- as the code has the code's refusal, its dimension and its depth
  module _ {d D : ℕ} (e : done ≡ code_refusal code) (ax : d ≡ dimension_of code) (dp : D ≡ depth_of code) where
    p : code_refusal code ≡ done
    p = sym e

    wide : d ≤ length roots → leb (dimension_of code) (length roots) ≡ true
    wide l = le-leb (dimension_of code) (length roots) (omega (arith, ax))

    -- one of the two buffers has not the room
    pub to_path_short : (length roots < d) ⊎ ((d ≤ length roots) × (length paths < D)) → CodeToPath code roots paths (path_written (Err Short)) roots paths
    unfolding to_path_refusal
    to_path_short (inl h) = refused Short (first_is (past p (fails (rw (lt-leb (dimension_of code) (length roots) (omega (arith, ax))) refl))))
    to_path_short (inr h) = refused Short (first_is (past p (fails (rw (wide h.0, lt-leb (depth_of code) (length paths) (omega arith)) refl))))

    fits : d ≤ length roots → D ≤ length paths → to_path_refusal code (length roots) (length paths) ≡ done
    unfolding to_path_refusal
    fits l h = first_is (past p (holds (rw (wide l, le-leb (depth_of code) (length paths) (omega arith)) refl) all_hold))

    pub to_path_done : {roots' paths' : List ℕ} → d ≤ length roots → D ≤ length paths → PathStands code (dimension_of code) (depth_of code) roots paths roots' paths'
        → CodeToPath code roots paths (path_written (Ok (record { axes = d; depth = D }))) roots' paths'
    to_path_done l h w = record {
      number = sym (fits l h);
      refused = λ q. absurd (q (fits l h));
      written = λ q. record {
        root = root_of code;
        path = path_of code;
        is_code = c;
        axes = ax ∙ sym (length_root c);
        depth = dp ∙ sym (length_path_of c);
        root_written = w.root_written ∙ ap (λ (n : ℕ). root_of code ++ drop n roots) (sym (length_root c));
        path_written = w.path_written ∙ ap (λ (n : ℕ). path_of code ++ drop n paths) (sym (length_path_of c));
      };
    }
      where
        c : IsCodeOf code (root_of code) (path_of code)
        c = code_path code p
