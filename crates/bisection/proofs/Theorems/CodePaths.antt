-- Codes as bytes against roots and paths. Every code of a good root and a good path passes; every byte string
-- that passes is the code of exactly one good root and good path; the child's code is the step of the code, and
-- the parent's code is the one whose step it is.
use Rattle.std.specs.Prelude.{◌≡◌, true, List, [], ◌∷◌, ◌++◌, ℕ, suc, ◌-◌, ◌≤◌, ◌<◌, length}
use Rattle.std.proofs.Math.Path.{refl}
use Rattle.std.proofs.Common.{sym, ap, ◌∙◌, arith, length-append}
use Rattle.std.proofs.Math.Nat.{zero-add}
use Rattle.dimension.specs.Sizes.{is_dimension}
use Rattle.dimension.specs.Laws.{dimension}
use Rattle.bisection.specs.Roots.{Permutation, GoodRoot, GoodPath}
use Rattle.bisection.specs.Codes.{Name, step, root_name, name_of, bytes, code_of, IsCodeOf, dimension_of, depth_of, parts_of}
use Rattle.bisection.specs.Refusals.{done, code_refusal}
use Rattle.bisection.specs.Theorems.Passing.{Passes, parent_name}
use Rattle.bisection.proofs.Theorems.Passing.{parent_step, step_passes}
use Rattle.bisection.specs.Theorems.Paths.{path_to, root_to, Steps}
use Rattle.bisection.proofs.Theorems.Paths.{root_passes, below_passes, path_below, root_below, length_path, steps_path, root_root, name_again, below_snoc}
use Rattle.bisection.specs.Theorems.Checked.{Good}
use Rattle.bisection.proofs.Theorems.Checked.{good, bytes_done, parts_bytes}
use Rattle.bisection.specs.Theorems.CodePaths.{child_code, parent_code, path_of, root_of}

module _ {d : ℕ} (e : is_dimension d ≡ true) where
  pub some_axes : 0 < d
  some_axes = omega (arith, (dimension d e).two)

  pub few_axes : d < 128
  few_axes = omega (arith, (dimension d e).few)

pub path_steps : {d : ℕ} {path : List ℕ} → GoodPath d path → Steps path
path_steps p = record { small = p.steps }

-- the name of a good root and a path
module _ {root : List ℕ} (r : GoodRoot root) (path : List ℕ) where
  d0 : 0 < length root
  d0 = some_axes r.dimension

  small : length root < 128
  small = few_axes r.dimension

  rooted : Passes (length root) 0 (root_name root)
  rooted = root_passes root d0 small r.permutation

  pub name_passes : Passes (length root) (length path) (name_of root path)
  unfolding name_of
  name_passes = rw zero-add at (below_passes (length root) d0 small path 0 (root_name root) rooted)

  pub path_of_name : Steps path → path_to (length root) (length path) (name_of root path) ≡ path
  unfolding name_of
  path_of_name s = unfold path_to in rw zero-add at (path_below (length root) d0 small path 0 (root_name root) rooted s)

  pub root_of_name : Steps path → root_to (length root) (length path) (name_of root path) ≡ root
  unfolding name_of
  root_of_name s = unfold root_to in rw zero-add at (root_below (length root) d0 small path 0 (root_name root) rooted s)

  pub parts_of_code : parts_of (code_of root path) ≡ name_of root path
  unfolding code_of
  parts_of_code = parts_bytes (length root) (length path) (name_of root path) name_passes.signed.size

pub dimension_of_code : (root path : List ℕ) → dimension_of (code_of root path) ≡ length root
unfolding code_of bytes dimension_of
dimension_of_code root path = refl

pub depth_of_code : (root path : List ℕ) → depth_of (code_of root path) ≡ length path
unfolding code_of bytes depth_of
depth_of_code root path = refl

-- the code of a good root and a good path passes
pub code_passes : (root path : List ℕ) → GoodRoot root → GoodPath (length root) path → code_refusal (code_of root path) ≡ done
unfolding code_of
code_passes root path r p = bytes_done (length root) (length path) (name_of root path) r.dimension p.depth (name_passes r path)

-- every byte string that passes is the code of a good root and a good path
pub code_path : (code : List ℕ) → code_refusal code ≡ done → IsCodeOf code (root_of code) (path_of code)
unfolding root_of path_of
code_path code e = record {
  good_root = record { dimension = rw size g.dimension; permutation = shape.1 };
  good_path = record { steps = (steps_path d d0 small D (parts_of code) g.passes).small; depth = rw (size, deep) g.depth };
  is = g.is ∙ sym again;
}
  where
    g : Good code
    g = good code e

    d : ℕ
    d = dimension_of code

    D : ℕ
    D = depth_of code

    d0 : 0 < d
    d0 = some_axes g.dimension

    small : d < 128
    small = few_axes g.dimension

    shape : (length (root_to d D (parts_of code)) ≡ d) × Permutation (root_to d D (parts_of code))
    shape = root_root d d0 small D (parts_of code) g.passes

    size : length (root_to d D (parts_of code)) ≡ d
    size = shape.0

    deep : length (path_to d D (parts_of code)) ≡ D
    deep = length_path d d0 small D (parts_of code)

    again : code_of (root_to d D (parts_of code)) (path_to d D (parts_of code)) ≡ bytes d D (parts_of code)
    again = unfold code_of name_of in rw (size, deep, name_again d d0 small D (parts_of code) g.passes) refl

-- and of no other
module _ {code root path : List ℕ} (c : IsCodeOf code root path) where
  pub the_root : root_of code ≡ root
  unfolding root_of
  the_root = rw (c.is, dimension_of_code root path, depth_of_code root path, parts_of_code c.good_root path) (root_of_name c.good_root path (path_steps c.good_path))

  pub the_path : path_of code ≡ path
  unfolding path_of
  the_path = rw (c.is, dimension_of_code root path, depth_of_code root path, parts_of_code c.good_root path) (path_of_name c.good_root path (path_steps c.good_path))

pub one_path : {code root path root' path' : List ℕ} → IsCodeOf code root path → IsCodeOf code root' path' → (root ≡ root') × (path ≡ path')
one_path c c' = (sym (the_root c) ∙ the_root c', sym (the_path c) ∙ the_path c')

-- the child's code is the step of the code
pub child_code_is : (root path : List ℕ) → GoodRoot root → (b : ℕ) → code_of root (path ++ b ∷ []) ≡ child_code b (code_of root path)
unfolding child_code
child_code_is root path r b = rw (dimension_of_code root path, depth_of_code root path, parts_of_code r path) go
  where
    more : length (path ++ b ∷ []) ≡ suc (length path)
    more = simp length-append (omega arith)

    go : code_of root (path ++ b ∷ []) ≡ bytes (length root) (suc (length path)) (step (length root) (length path) b (name_of root path))
    go = unfold code_of name_of in rw (more, below_snoc (length root) (d0 r path) (small r path) path 0 (root_name root) b, zero-add (length path)) refl

pub parent_code_is : (root path : List ℕ) → GoodRoot root → (b : ℕ) → b ≤ 1 → parent_code (code_of root (path ++ b ∷ [])) ≡ code_of root path
unfolding parent_code
parent_code_is root path r b h = rw (child_code_is root path r b) go
  where
    n : Name
    n = name_of root path

    d : ℕ
    d = length root

    D : ℕ
    D = length path

    stepped : Passes d (suc D) (step d D b n)
    stepped = step_passes d D (d0 r path) (small r path) n (name_passes r path) b

    less : suc D - 1 ≡ D
    less = omega arith

    parent : parent_name d D (step d D b n) ≡ n
    parent = parent_step d D (d0 r path) (small r path) n (name_passes r path) b h

    go : bytes (dimension_of (child_code b (code_of root path))) (depth_of (child_code b (code_of root path)) - 1) (parent_name (dimension_of (child_code b (code_of root path))) (depth_of (child_code b (code_of root path)) - 1) (parts_of (child_code b (code_of root path)))) ≡ code_of root path
    go = rw child_is (rw (dims, depths, parts_bytes d (suc D) (step d D b n) stepped.signed.size, less, parent) codes)
      where
        child_is : child_code b (code_of root path) ≡ bytes d (suc D) (step d D b n)
        child_is = unfold child_code in rw (dimension_of_code root path, depth_of_code root path, parts_of_code r path) refl

        dims : dimension_of (bytes d (suc D) (step d D b n)) ≡ d
        dims = unfold bytes dimension_of in refl

        depths : depth_of (bytes d (suc D) (step d D b n)) ≡ suc D
        depths = unfold bytes depth_of in refl

        codes : bytes d D n ≡ code_of root path
        codes = unfold code_of in refl

-- a code's root has as many bytes as its dimension, its path as many as its depth
module _ {code root path : List ℕ} (c : IsCodeOf code root path) where
  pub length_root : length root ≡ dimension_of code
  length_root = sym (ap dimension_of c.is ∙ dimension_of_code root path)

  pub length_path_of : length path ≡ depth_of code
  length_path_of = sym (ap depth_of c.is ∙ depth_of_code root path)
