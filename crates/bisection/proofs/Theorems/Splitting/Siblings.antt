-- A child's facets and the cell's, for every dimension: the facet opposite the end that the child keeps lies inside none of the cell's,
-- and the other child lies across it; each other facet lies inside exactly one.
use Rattle.std.specs.Prelude.{◌≡◌, refl, ◌≢◌, ℕ, ◌-◌, ◌≤◌, ◌<◌, length, get_or}
use Rattle.std.proofs.Common.{sym, ap, ◌∙◌, arith}
use mathlib.Core.List.Memᴰ
use mathlib.Core.List.{List, [], ◌∷◌, ◌++◌, Memᴰ}
use Rattle.std.proofs.Math.Decide.{ℕ_discrete}
use Rattle.std.proofs.lemmas.List.{get_or_at}
use Rattle.dimension.specs.Sizes.{greatest_depth, split_place}
use Rattle.bisection.specs.Cells.{Cell, vertex, child}
use Rattle.bisection.specs.Codes.{dimension_of, depth_of}
use Rattle.bisection.specs.Facets.{facet, HasAll, IsCell, Across}
use Rattle.bisection.specs.Weights.{LiesInside}
use Rattle.bisection.proofs.Theorems.CodePaths.{one_path}
use Rattle.bisection.proofs.Theorems.CodeCells.{same_code}
use Rattle.bisection.specs.Theorems.Drawn.{Sized}
use Rattle.bisection.specs.Theorems.Crossing.Skips.{skip, Skipped}
use Rattle.bisection.proofs.Theorems.Crossing.Skips.{skip_in, skip_one, skipped}
use Rattle.bisection.specs.Theorems.Crossing.Points.{OtherPlace}
use Rattle.bisection.proofs.Theorems.Crossing.Points.{place_mem, mem_facet}
use Rattle.bisection.proofs.Theorems.Crossing.Coded.{coded, range}
use Rattle.bisection.proofs.Theorems.Neighbour.{shares_across}
use Rattle.bisection.specs.Theorems.Splitting.Children.{lacks, keeps, kept_at}
use Rattle.bisection.proofs.Theorems.Splitting.Children.{kept_in, kept_place, kept_end, sibling_lacks, sibling_keeps, child_middle, child_kept, child_size, lacks_in}
use Rattle.bisection.specs.Theorems.Splitting.Inside.{Holder}
use Rattle.bisection.proofs.Theorems.Splitting.Inside.{holder, lies_one, lies_not_kept, inside_lies, lies_inside}
use Rattle.bisection.proofs.Theorems.Splitting.Agreement.{code_of_child, child_dimension, child_depth, child_is_code, child_is_cell}
use Rattle.bisection.specs.Theorems.Splitting.Siblings.{OneHolder}

module _ {code : List ℕ} {vs : Cell} (c : IsCell code vs) (deep : depth_of code < greatest_depth (dimension_of code)) (b : ℕ) (small : b ≤ 1) where
  abbrev d : ℕ
  d = dimension_of code

  abbrev k : ℕ
  k = split_place (dimension_of code) (depth_of code)

  k1 : 1 ≤ k
  k1 = (range (coded c)).0

  kd : k ≤ d
  kd = (range (coded c)).1

  z : Sized d vs
  z = (coded c).drawn.sized

  pub shared_outside : (i : ℕ) → i ≤ d → ¬ LiesInside (facet (kept_at b k) (child b k vs)) (facet i vs)
  shared_outside i il n = lies_not_kept k1 (inside_lies (coded c) deep b i (kept_at b k) il (kept_in b k kd) n) refl

  pub one_holder : (j : ℕ) → j ≤ d → j ≢ kept_at b k → OneHolder d vs (child b k vs) j
  one_holder j jl n = record {
    i = h.i;
    within = h.within;
    inside = lies_inside (coded c) deep b h.i j h.within jl h.lies;
    only = λ i' il q. lies_one (inside_lies (coded c) deep b i' j il jl q) h.lies;
  }
    where
      h : Holder d b k j
      h = holder b k j k1 kd jl n (lacks_in z k kd b)

  -- child b', which lacks what child b keeps, has all vertices of child b but that
  shared_has : (b b' : ℕ) → lacks b' k ≡ keeps b k → HasAll (facet (kept_at b k) (child b k vs)) (child b' k vs)
  shared_has b b' e v m = go (ℕ_discrete p.place k)
    where
      p : OtherPlace v (kept_at b k) (child b k vs)
      p = mem_facet (child b k vs) (kept_at b k) (omega (arith, child_size z k kd b, kept_in b k kd)) m

      there : (t : ℕ) → t ≤ d → v ≡ vertex (child b' k vs) t → Memᴰ v (child b' k vs)
      there t l q = Memᴰ.cast q (place_mem [] (child b' k vs) t (omega (arith, child_size z k kd b')))

      go : Dec (p.place ≡ k) → Memᴰ v (child b' k vs)
      go (yes q) = there k kd (p.is ∙ ap (vertex (child b k vs)) q ∙ child_middle z k kd b ∙ sym (child_middle z k kd b'))
      go (no q) = there (skip k f.from) (skip_in k f.from f.below)
          (p.is ∙ ap (vertex (child b k vs)) (sym s.is) ∙ child_kept z k kd b s.from ∙ ap (vertex vs) (sym f.is) ∙ sym (child_kept z k kd b' f.from))
        where
          s : Skipped d k p.place
          s = skipped k p.place kd (omega (arith, p.below, child_size z k kd b)) q

          -- the vertex is not the end that child b keeps
          old : skip (lacks b k) s.from ≢ lacks b' k
          old r = p.other (sym s.is ∙ ap (skip k) (skip_one (lacks b k) s.from (kept_at b k) (r ∙ e ∙ sym (kept_end k k1 b))) ∙ kept_place k k1 b)

          f : Skipped d (lacks b' k) (skip (lacks b k) s.from)
          f = skipped (lacks b' k) (skip (lacks b k) s.from) (lacks_in z k kd b') (skip_in (lacks b k) s.from s.below) old

  -- the last steps differ
  siblings_apart : code_of_child c b ≢ code_of_child c (1 - b)
  siblings_apart e = omega (arith, last b, last (1 - b), ap (λ (l : List ℕ). get_or l (length c.path) 0) same)
    where
      last : (n : ℕ) → get_or (c.path ++ n ∷ []) (length c.path) 0 ≡ n
      last n = get_or_at c.path n [] 0 (length c.path) refl

      same : c.path ++ b ∷ [] ≡ c.path ++ (1 - b) ∷ []
      same = (one_path (rw e at (child_is_code c b small deep)) (child_is_code c (1 - b) (omega arith) deep)).1

  siblings : Across (code_of_child c b) (kept_at b k) (code_of_child c (1 - b)) (kept_at (1 - b) k)
  siblings = shares_across (rw (child_dimension c b) (kept_in b k kd)) (record {
    vs = child b k vs;
    ws = child (1 - b) k vs;
    cell = child_is_cell c b small deep;
    cell' = child_is_cell c (1 - b) (omega arith) deep;
    another = siblings_apart;
    dimension = rw (child_dimension c b, child_dimension c (1 - b)) refl;
    depth = rw (child_depth c b, child_depth c (1 - b)) refl;
    has = shared_has b (1 - b) (sibling_lacks b k small);
  }) (kept_at (1 - b) k) (rw (child_dimension c b) (kept_in (1 - b) k kd)) (shared_has (1 - b) b (sibling_keeps b k small))

  pub sibling_across : {child_code child_code' : List ℕ} → IsCell child_code (child b k vs) → IsCell child_code' (child (1 - b) k vs) → Across child_code (kept_at b k) child_code' (kept_at (1 - b) k)
  sibling_across u u' = rw (same_code u (child_is_cell c b small deep) refl, same_code u' (child_is_cell c (1 - b) (omega arith) deep) refl) siblings
