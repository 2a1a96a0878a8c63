-- Roots and paths against names, for every dimension d: the name of a root and a path is a cell's, the way up
-- from it gives the root and the path back, and every name that is a cell's is got so.
use Rattle.std.specs.Prelude.{◌≡◌, false, length, get_or}
use Rattle.std.proofs.Math.Path.{refl, sym, ap}
use Rattle.std.proofs.Common.{◌∙◌, subst, arith, add-suc, suc-add, zero-add}
use mathlib.Core.List.{List, [], ◌∷◌, ◌++◌, append_assoc}
use Prim.Native.Nat.{ℕ, zero, suc, ◌+◌, ◌-◌, ◌^◌, ◌≤◌, ◌<◌}
use Rattle.std.proofs.Math.Nat.{zero-div, add-zero}
use Rattle.std.proofs.Math.Decide.{dec_lt}
use Rattle.std.proofs.Math.ListN.{length-append, get_or-append}
use Rattle.std.proofs.lemmas.List.{get_or_at}
use Rattle.std.proofs.lemmas.Bool.{lt-leb}
use Rattle.dimension.specs.Laws.{at_root}
use Rattle.bisection.specs.Roots.{Permutation}
use Rattle.bisection.specs.Codes.{axis, minus, high, Name, step, root_name, name_below}
use Rattle.bisection.specs.Refusals.{own_minus}
use Rattle.bisection.specs.Theorems.Passing.{Passes, last_step, parent_name}
use Rattle.bisection.proofs.Theorems.Passing.{step_passes, last_step_is, parent_step, parent_passes, step_parent, last_small}
use Rattle.bisection.specs.Theorems.Paths.{RootName, Steps, path_to, root_to}

pub path_suc : (d D : ℕ) (m : Name) → path_to d (suc D) m ≡ path_to d D (parent_name d D m) ++ last_step d D m ∷ []
unfolding path_to
path_suc d D m = refl

pub steps_rest : {b : ℕ} {path : List ℕ} → Steps (b ∷ path) → Steps path
steps_rest s = record { small = λ i l. s.small (suc i) (omega arith) }

pub steps_more : {path : List ℕ} → Steps path → (b : ℕ) → b ≤ 1 → Steps (path ++ b ∷ [])
steps_more {path} s b h = record { small = λ i l. go i l (dec_lt i (length path)) }
  where
    go : (i : ℕ) → i < length (path ++ b ∷ []) → Dec (i < length path) → get_or (path ++ b ∷ []) i 0 ≤ 1
    go i l (yes q) = rw (get_or-append path (b ∷ []) 0 i q) (s.small i q)
    go i l (no q) = rw (get_or_at path b [] 0 i (omega (arith, simp length-append at l))) h

-- an axis byte of a root is its own axis, with a plus
pub plain_minus : (e : ℕ) → e < 128 → minus e ≡ false
unfolding minus
plain_minus e h = lt-leb 128 e h

pub plain_axis : (e : ℕ) → minus e ≡ false → axis e ≡ e
unfolding axis
plain_axis e h = rw h

pub own_none : (a : ℕ) → own_minus [] a ≡ false
unfolding own_minus high
own_none a = rw (zero-div (2 ^ (a - 1)))

pub root_passes : (root : List ℕ) → 0 < length root → length root < 128 → Permutation root → Passes (length root) 0 (root_name root)
root_passes root d0 small p = record {
  signed = record {
    size = refl;
    low = λ i l. rw (is i l) (p.low i l);
    high = λ i l. rw (is i l) (p.high i l);
    apart = λ i j l m e. p.apart i j l m (sym (is i l) ∙ e ∙ is j m);
  };
  boxes = rw (at_root (length root) d0).0 (record { count = refl; fit = λ t l. absurd (omega arith) });
  own = rw (at_root (length root) d0).1 (record { sign = λ i l. plain i l ∙ sym (own_none (axis (get_or root i 0))) });
}
  where
    plain : (i : ℕ) → i < length root → minus (get_or root i 0) ≡ false
    plain i l = plain_minus (get_or root i 0) (omega (arith, p.high i l))

    is : (i : ℕ) → i < length root → axis (get_or root i 0) ≡ get_or root i 0
    is i l = plain_axis (get_or root i 0) (plain i l)

empty : (os : List ℕ) → length os ≡ 0 → os ≡ []
empty [] e = refl
empty (o ∷ os) e = absurd (omega arith)

pub passes_root : (d : ℕ) → 0 < d → (m : Name) → Passes d 0 m → RootName d m
passes_root d d0 m p = record {
  size = size;
  permutation = record {
    low = λ i l. subst (λ (e : ℕ). 1 ≤ e) (is i (omega arith)) (p.signed.low i (omega arith));
    high = λ i l. subst (λ (e : ℕ). e ≤ length m.entries) (is i (omega arith)) (omega (arith, p.signed.high i (omega arith)));
    apart = λ i j l k e. p.signed.apart i j (omega arith) (omega arith) (is i (omega arith) ∙ e ∙ sym (is j (omega arith)));
  };
  none = λ i. record { entries = m.entries; orthants = none i };
}
  where
    size : length m.entries ≡ d
    size = p.signed.size

    none : m.orthants ≡ []
    none = empty m.orthants (p.boxes.count ∙ (at_root d d0).0)

    is : (i : ℕ) → i < d → axis (get_or m.entries i 0) ≡ get_or m.entries i 0
    is i l = plain_axis (get_or m.entries i 0) (p.own.sign i (rw (at_root d d0).1 l) ∙ ap (λ (os : List ℕ). own_minus os (axis (get_or m.entries i 0))) none ∙ own_none (axis (get_or m.entries i 0)))

module _ (d : ℕ) (d0 : 0 < d) (small : d < 128) where
  pub below_passes : (path : List ℕ) (D : ℕ) (m : Name) → Passes d D m → Passes d (D + length path) (name_below d D m path)
  unfolding name_below
  below_passes [] D m p = rw add-zero p
  below_passes (b ∷ path) D m p = rw (add-suc, ← suc-add) (below_passes path (suc D) (step d D b m) (step_passes d D d0 small m p b))

  -- the way up from a name below another passes through it
  pub path_below : (path : List ℕ) (D : ℕ) (m : Name) → Passes d D m → Steps path → path_to d (D + length path) (name_below d D m path) ≡ path_to d D m ++ path
  unfolding name_below
  path_below [] D m p s = rw add-zero (sym (append_nil (path_to d D m)))
    where
      append_nil : (l : List ℕ) → l ++ [] ≡ l
      append_nil [] = refl
      append_nil (x ∷ l) = ap (λ (r : List ℕ). x ∷ r) (append_nil l)
  path_below (b ∷ path) D m p s = rw (add-suc, ← suc-add)
      (path_below path (suc D) (step d D b m) (step_passes d D d0 small m p b) (steps_rest s)
      ∙ rw (path_suc d D (step d D b m), parent_step d D d0 small m p b (s.small 0 (omega arith)), last_step_is d D d0 small m p b (s.small 0 (omega arith))) (append_assoc (path_to d D m) (b ∷ []) path))

  pub root_below : (path : List ℕ) (D : ℕ) (m : Name) → Passes d D m → Steps path → root_to d (D + length path) (name_below d D m path) ≡ root_to d D m
  unfolding name_below root_to
  root_below [] D m p s = rw add-zero refl
  root_below (b ∷ path) D m p s = rw (add-suc, ← suc-add)
      (root_below path (suc D) (step d D b m) (step_passes d D d0 small m p b) (steps_rest s)
      ∙ ap (root_to d D) (parent_step d D d0 small m p b (s.small 0 (omega arith))))

  -- the way up: as many steps as the depth, to a root
  pub length_path : (D : ℕ) (m : Name) → length (path_to d D m) ≡ D
  unfolding path_to
  length_path zero m = refl
  length_path (suc D) m = simp length-append (omega (arith, length_path D (parent_name d D m)))

  pub steps_path : (D : ℕ) (m : Name) → Passes d D m → Steps (path_to d D m)
  unfolding path_to
  steps_path zero m p = record { small = λ i l. absurd (omega arith) }
  steps_path (suc D) m p = steps_more (steps_path D (parent_name d D m) (parent_passes d D d0 small m p)) (last_step d D m) (last_small d D d0 small m p)

  pub root_root : (D : ℕ) (m : Name) → Passes d D m → (length (root_to d D m) ≡ d) × Permutation (root_to d D m)
  unfolding root_to
  root_root zero m p = let r = passes_root d d0 m p in (r.size, r.permutation)
  root_root (suc D) m p = root_root D (parent_name d D m) (parent_passes d D d0 small m p)

  pub below_snoc : (path : List ℕ) (D : ℕ) (m : Name) (b : ℕ) → name_below d D m (path ++ b ∷ []) ≡ step d (D + length path) b (name_below d D m path)
  unfolding name_below
  below_snoc [] D m b = rw add-zero refl
  below_snoc (c ∷ path) D m b = rw (add-suc, ← suc-add) (below_snoc path (suc D) (step d D c m) b)

  pub name_again : (D : ℕ) (m : Name) → Passes d D m → name_below d 0 (root_name (root_to d D m)) (path_to d D m) ≡ m
  unfolding root_to path_to
  name_again zero m p = unfold name_below in sym (passes_root d d0 m p).none
  name_again (suc D) m p = below_snoc (path_to d D (parent_name d D m)) 0 (root_name (root_to d D (parent_name d D m))) (last_step d D m)
      ∙ rw (zero-add, length_path D (parent_name d D m), name_again D (parent_name d D m) (parent_passes d D d0 small m p)) (step_parent d D d0 small m p)
