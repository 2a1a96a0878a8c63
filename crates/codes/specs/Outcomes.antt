-- What each entry of the code layer answers, for every input: the answer and every lent cell, refusals too.
-- Document 01, "The code" and "Refusal numbers". `before` and `after` are a lent buffer at entry and at exit.
use Rattle.std.specs.Prelude.{◌≡◌, ◌&&◌, List, [], ◌∷◌, ◌++◌, ◌≢◌, ℕ, suc, ◌-◌, leb, ltb, length, drop}
use Rattle.dimension.specs.Sizes.{is_dimension, greatest_depth, code_length, points_length}
use Rattle.bisection.specs.Cells.{cell_of, cell_bytes}
use Rattle.bisection.specs.Codes.{code_of, IsCodeOf, dimension_of, depth_of}
use Rattle.bisection.specs.Refusals.{done, refused_dimension, refused_depth, refused_permutation, refused_step, refused_root, refused_deepest, refused_short}
use Rattle.bisection.specs.Refusals.{need, own, first_refusal, code_refusal, is_root, is_path}
use Rattle.codes.specs.declared.Written.{Written}
use Rattle.codes.specs.declared.PathWritten.{PathWritten}

-- what becomes of a lent buffer: refused, nothing changes and the length is 0; done, the answer stands at its front
-- and the cells past it keep their content
pub record Writes (refusal : ℕ) (answer before : List ℕ) (r : Written) (after : List ℕ) : Type 0 where
  pub number : r.refusal ≡ refusal
  pub refused : refusal ≢ done → (r.length ≡ 0) × (after ≡ before)
  pub written : refusal ≡ done → (r.length ≡ length answer) × (after ≡ answer ++ drop (length answer) before)

-- an entry whose answer is the one of a relation
pub record Answers (refusal : ℕ) (Is : List ℕ → Type 0) (before : List ℕ) (r : Written) (after : List ℕ) : Type 0 where
  pub answer : List ℕ
  pub writes : Writes refusal answer before r after
  pub is : refusal ≡ done → Is answer

-- path to code: 1 (root length), 2 (path length), 4, 7, 11
unfoldable pub path_refusal : List ℕ → List ℕ → ℕ → ℕ
path_refusal root path room = first_refusal (
    need (is_dimension (length root)) refused_dimension
    ∷ need (leb (length path) (greatest_depth (length root))) refused_depth
    ∷ need (is_root root) refused_permutation
    ∷ need (is_path path) refused_step
    ∷ need (leb (code_length (length root) (length path)) room) refused_short
    ∷ [])

abbrev pub PathToCode : List ℕ → List ℕ → List ℕ → Written → List ℕ → Type 0
PathToCode root path before r after = Writes (path_refusal root path (length before)) (code_of root path) before r after

-- code to path fills two buffers or neither
unfoldable pub to_path_refusal : List ℕ → ℕ → ℕ → ℕ
to_path_refusal code root_room path_room = first_refusal (
    own (code_refusal code)
    ∷ need (leb (dimension_of code) root_room && leb (depth_of code) path_room) refused_short
    ∷ [])

-- the root and the path whose code it is stand at the buffers' fronts
pub record PathOf (code roots paths : List ℕ) (r : PathWritten) (roots' paths' : List ℕ) : Type 0 where
  pub root : List ℕ
  pub path : List ℕ
  pub is_code : IsCodeOf code root path
  pub axes : r.axes ≡ length root
  pub depth : r.depth ≡ length path
  pub root_written : roots' ≡ root ++ drop (length root) roots
  pub path_written : paths' ≡ path ++ drop (length path) paths

pub record CodeToPath (code roots paths : List ℕ) (r : PathWritten) (roots' paths' : List ℕ) : Type 0 where
  pub number : r.refusal ≡ to_path_refusal code (length roots) (length paths)
  pub refused : to_path_refusal code (length roots) (length paths) ≢ done → (r.axes ≡ 0) × (r.depth ≡ 0) × (roots' ≡ roots) × (paths' ≡ paths)
  pub written : to_path_refusal code (length roots) (length paths) ≡ done → PathOf code roots paths r roots' paths'

-- vertices: the code's own; 11
unfoldable pub vertices_refusal : List ℕ → ℕ → ℕ
vertices_refusal code room = first_refusal (
    own (code_refusal code)
    ∷ need (leb (points_length (dimension_of code)) room) refused_short
    ∷ [])

-- the bytes of the bisection's cell of that code
pub record VerticesOf (code answer : List ℕ) : Type 0 where
  pub root : List ℕ
  pub path : List ℕ
  pub is_code : IsCodeOf code root path
  pub is : answer ≡ cell_bytes (cell_of root path)

abbrev pub Vertices : List ℕ → List ℕ → Written → List ℕ → Type 0
Vertices code before r after = Answers (vertices_refusal code (length before)) (VerticesOf code) before r after

-- child: the code's own; 7; 10; 11
unfoldable pub child_refusal : List ℕ → ℕ → ℕ → ℕ
child_refusal code which room = first_refusal (
    own (code_refusal code)
    ∷ need (leb which 1) refused_step
    ∷ need (ltb (depth_of code) (greatest_depth (dimension_of code))) refused_deepest
    ∷ need (leb (code_length (dimension_of code) (suc (depth_of code))) room) refused_short
    ∷ [])

-- the code of the path with one step more
pub record ChildOf (which : ℕ) (code answer : List ℕ) : Type 0 where
  pub root : List ℕ
  pub path : List ℕ
  pub is_code : IsCodeOf code root path
  pub is : answer ≡ code_of root (path ++ which ∷ [])

abbrev pub Child : List ℕ → ℕ → List ℕ → Written → List ℕ → Type 0
Child code which before r after = Answers (child_refusal code which (length before)) (ChildOf which code) before r after

-- parent: the code's own; 9; 11
unfoldable pub parent_refusal : List ℕ → ℕ → ℕ
parent_refusal code room = first_refusal (
    own (code_refusal code)
    ∷ need (ltb 0 (depth_of code)) refused_root
    ∷ need (leb (code_length (dimension_of code) (depth_of code - 1)) room) refused_short
    ∷ [])

-- the code of the path without its last step
pub record ParentOf (code answer : List ℕ) : Type 0 where
  pub root : List ℕ
  pub path : List ℕ
  pub last : ℕ
  pub is_code : IsCodeOf code root (path ++ last ∷ [])
  pub is : answer ≡ code_of root path

abbrev pub Parent : List ℕ → List ℕ → Written → List ℕ → Type 0
Parent code before r after = Answers (parent_refusal code (length before)) (ParentOf code) before r after
