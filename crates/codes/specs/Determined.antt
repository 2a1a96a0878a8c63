-- What the promises of the code layer leave open: nothing. Two outcomes that an entry's contract allows for one
-- input are equal, the answer and every lent cell.
use Rattle.std.specs.Prelude.{◌≡◌, refl, List, [], ◌∷◌, ◌++◌, ℕ, Result, Ok, Err, length, drop}
use Rattle.std.proofs.Common.{sym, ap, ◌∙◌}
use Rattle.std.proofs.Math.Decide.{ℕ_discrete}
use Rattle.bisection.specs.declared.Refusal.{Refusal}
use Rattle.bisection.specs.Numbers.{refusal_in}
use Rattle.bisection.specs.NumberLaws.{refuses, one_refusal}
use Rattle.bisection.specs.Refusals.{code_refusal}
use Rattle.bisection.proofs.Theorems.CodePaths.{one_path}
use Rattle.bisection.proofs.Theorems.CellChildren.{shorter}
use Rattle.codes.specs.declared.Written.{Written}
use Rattle.codes.specs.declared.PathWritten.{PathWritten}
use Rattle.codes.specs.declared.Lengths.{Lengths}
use Rattle.codes.specs.Forms.{written, path_written}
use Rattle.codes.specs.Outcomes.{Writes, Answers, PathToCode, to_path_refusal, PathOf, CodeToPath, VerticesOf, Vertices, ChildOf, Child, ParentOf, Parent}

-- an outcome: the answer and the buffer at exit
same_written : {r r' : Written} → r.refusal ≡ r'.refusal → r.length ≡ r'.length → r ≡ r'
same_written p q = λ i. record { refusal = p i; length = q i }

-- one number and one answer leave one outcome; where the number is a refusal, whatever the answer would be
writes_determined : {refusal : ℕ} {answer answer' before after after' : List ℕ} {r r' : Written} → (refusal ≡ 0 → answer ≡ answer')
    → Writes refusal answer before r after → Writes refusal answer' before r' after' → (r ≡ r') × (after ≡ after')
writes_determined {refusal} {answer} {answer'} {before} {after} {after'} {r} {r'} same w w' = go (ℕ_discrete refusal 0)
  where
    go : Dec (refusal ≡ 0) → (r ≡ r') × (after ≡ after')
    go (yes e) = (
      same_written (w.number ∙ sym w'.number) ((w.written e).0 ∙ ap length (same e) ∙ sym (w'.written e).0),
      (w.written e).1 ∙ ap (λ (a : List ℕ). a ++ drop (length a) before) (same e) ∙ sym (w'.written e).1,
    )
    go (no e) = (same_written (w.number ∙ sym w'.number) ((w.refused e).0 ∙ sym (w'.refused e).0), (w.refused e).1 ∙ sym (w'.refused e).1)

answers_determined : {refusal : ℕ} {Is : List ℕ → Type 0} → ((a a' : List ℕ) → Is a → Is a' → a ≡ a') → {before after after' : List ℕ} {r r' : Written}
    → Answers refusal Is before r after → Answers refusal Is before r' after' → (r ≡ r') × (after ≡ after')
answers_determined one g g' = writes_determined (λ e. one g.answer g'.answer (g.is e) (g'.is e)) g.writes g'.writes

pub code_check_determined : (code : List ℕ) {r r' : ℕ} → r ≡ code_refusal code → r' ≡ code_refusal code → r ≡ r'
code_check_determined code e f = e ∙ sym f

pub path_to_code_determined : (root path : List ℕ) {before after after' : List ℕ} {r r' : Written} → PathToCode root path before r after
    → PathToCode root path before r' after' → (r ≡ r') × (after ≡ after')
path_to_code_determined root path = writes_determined (λ e. refl)

vertices_one : (code a a' : List ℕ) → VerticesOf code a → VerticesOf code a' → a ≡ a'
vertices_one code a a' v v' = v.is ∙ rw (p.0, p.1) refl ∙ sym v'.is
  where
    p : (v.root ≡ v'.root) × (v.path ≡ v'.path)
    p = one_path v.is_code v'.is_code

pub vertices_determined : (code : List ℕ) {before after after' : List ℕ} {r r' : Written} → Vertices code before r after → Vertices code before r' after' → (r ≡ r') × (after ≡ after')
vertices_determined code = answers_determined (vertices_one code)

child_one : (which : ℕ) (code a a' : List ℕ) → ChildOf which code a → ChildOf which code a' → a ≡ a'
child_one which code a a' v v' = v.is ∙ rw (p.0, p.1) refl ∙ sym v'.is
  where
    p : (v.root ≡ v'.root) × (v.path ≡ v'.path)
    p = one_path v.is_code v'.is_code

pub child_determined : (code : List ℕ) (which : ℕ) {before after after' : List ℕ} {r r' : Written} → Child code which before r after → Child code which before r' after' → (r ≡ r') × (after ≡ after')
child_determined code which = answers_determined (child_one which code)

parent_one : (code a a' : List ℕ) → ParentOf code a → ParentOf code a' → a ≡ a'
parent_one code a a' v v' = v.is ∙ rw (p.0, shorter v.path v'.path v.last v'.last p.1) refl ∙ sym v'.is
  where
    p : (v.root ≡ v'.root) × (v.path ++ v.last ∷ [] ≡ v'.path ++ v'.last ∷ [])
    p = one_path v.is_code v'.is_code

pub parent_determined : (code : List ℕ) {before after after' : List ℕ} {r r' : Written} → Parent code before r after → Parent code before r' after' → (r ≡ r') × (after ≡ after')
parent_determined code = answers_determined (parent_one code)

pub code_to_path_determined : {code roots paths root path root' path' : List ℕ} {r r' : PathWritten} → CodeToPath code roots paths r root path → CodeToPath code roots paths r' root' path'
    → (r ≡ r') × (root ≡ root') × (path ≡ path')
code_to_path_determined {code} {roots} {paths} {root} {path} {root'} {path'} {r} {r'} c c' = go (ℕ_discrete (to_path_refusal code (length roots) (length paths)) 0)
  where
    same : r.axes ≡ r'.axes → r.depth ≡ r'.depth → r ≡ r'
    same a b = λ i. record { refusal = (c.number ∙ sym c'.number) i; axes = a i; depth = b i }

    go : Dec (to_path_refusal code (length roots) (length paths) ≡ 0) → (r ≡ r') × (root ≡ root') × (path ≡ path')
    go (yes e) = (
      same (w.axes ∙ ap length p.0 ∙ sym w'.axes) (w.depth ∙ ap length p.1 ∙ sym w'.depth),
      w.root_written ∙ ap (λ (l : List ℕ). l ++ drop (length l) roots) p.0 ∙ sym w'.root_written,
      w.path_written ∙ ap (λ (l : List ℕ). l ++ drop (length l) paths) p.1 ∙ sym w'.path_written,
    )
      where
        w : PathOf code roots paths r root path
        w = c.written e

        w' : PathOf code roots paths r' root' path'
        w' = c'.written e

        p : (w.root ≡ w'.root) × (w.path ≡ w'.path)
        p = one_path w.is_code w'.is_code
    go (no e) = let n = c.refused e in let n' = c'.refused e in (same (n.0 ∙ sym n'.0) (n.1 ∙ sym n'.1), n.2 ∙ sym n'.2, n.3 ∙ sym n'.3)

-- the form that a C program has of an answer loses nothing
pub one_refusal_in : (r r' : Result Unit Refusal) → refusal_in r ≡ refusal_in r' → r ≡ r'
one_refusal_in (Ok n) (Ok m) e = refl
one_refusal_in (Ok n) (Err y) e = absurd (refuses y (sym e))
one_refusal_in (Err x) (Ok m) e = absurd (refuses x e)
one_refusal_in (Err x) (Err y) e = ap Err (one_refusal x y e)

pub one_written : (r r' : Result ℕ Refusal) → written r ≡ written r' → r ≡ r'
one_written (Ok n) (Ok m) e = ap Ok (ap (λ (w : Written). w.length) e)
one_written (Ok n) (Err y) e = absurd (refuses y (sym (ap (λ (w : Written). w.refusal) e)))
one_written (Err x) (Ok m) e = absurd (refuses x (ap (λ (w : Written). w.refusal) e))
one_written (Err x) (Err y) e = ap Err (one_refusal x y (ap (λ (w : Written). w.refusal) e))

pub one_path_written : (r r' : Result Lengths Refusal) → path_written r ≡ path_written r' → r ≡ r'
one_path_written (Ok n) (Ok m) e = ap Ok (λ i. record { axes = (e i).axes; depth = (e i).depth })
one_path_written (Ok n) (Err y) e = absurd (refuses y (sym (ap (λ (w : PathWritten). w.refusal) e)))
one_path_written (Err x) (Ok m) e = absurd (refuses x (ap (λ (w : PathWritten). w.refusal) e))
one_path_written (Err x) (Err y) e = ap Err (one_refusal x y (ap (λ (w : PathWritten). w.refusal) e))
