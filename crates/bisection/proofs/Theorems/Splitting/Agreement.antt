-- Crossing and splitting agree, for every dimension: what lies across a child's facet that is inside facet i of the cell. Where facet i
-- lies in a face of the cube, so do all points inside it. Otherwise there are two cases. The child's facet is a part: then facet i is
-- opposite no end of the split edge, so the cell across has that edge too, in the same places, and all other vertices but i; so its
-- child of the same number has the child's vertices but one, in the same places. Or it is the whole of facet i, opposite an end: then
-- the new vertex stands at an end too, and the child across that lacks it has the facet whole.
use Rattle.std.specs.Prelude.{◌≡◌, refl, ◌⊎◌, ◌≢◌, ℕ, zero, suc, ◌-◌, ◌≤◌, ◌<◌, length}
use Rattle.std.proofs.Common.{sym, ap, ◌∙◌, inl, inr, arith, length-append}
use Rattle.std.proofs.Math.Path.{subst}
use mathlib.Core.List.{List, [], ◌∷◌, ◌++◌, Memᴰ}
use Rattle.std.proofs.Math.Decide.{ℕ_discrete}
use borrow.Author.Tests.{eq-eqb, ne_eqb}
use Rattle.dimension.specs.Sizes.{greatest_depth, split_place}
use Rattle.bisection.specs.Cells.{Point, Cell, vertex, child}
use Rattle.bisection.specs.Codes.{code_of, IsCodeOf, dimension_of, depth_of}
use Rattle.bisection.specs.Facets.{facet, InFace, HasAll, IsCell, Shares, Across}
use Rattle.bisection.specs.Weights.{LiesInside}
use Rattle.bisection.proofs.Theorems.CodePaths.{dimension_of_code, depth_of_code, length_root, length_path_of, one_path}
use Rattle.bisection.proofs.Theorems.CodeCells.{same_code}
use Rattle.bisection.proofs.Theorems.CellChildren.{shorter, child_code_of, child_cell}
use Rattle.bisection.specs.Theorems.Drawn.{Sized}
use Rattle.bisection.proofs.Theorems.Drawn.{sized_child}
use Rattle.bisection.specs.Theorems.Crossing.Skips.{skip, Skipped}
use Rattle.bisection.proofs.Theorems.Crossing.Skips.{skip_in, skip_other, skip_one, skipped}
use Rattle.bisection.specs.Theorems.Crossing.Points.{OtherPlace}
use Rattle.bisection.proofs.Theorems.Crossing.Points.{mem_facet, facet_part, same_facet}
use Rattle.bisection.proofs.Theorems.Crossing.Coded.{coded, coded_at, range}
use Rattle.bisection.proofs.Theorems.Neighbour.{face_alone, shares_across, across_facets, across_ends, across_kept, across_edge}
use Rattle.bisection.proofs.Theorems.Weights.Facets.{inside_face}
use Rattle.bisection.specs.Theorems.Splitting.Children.{lacks, keeps}
use Rattle.bisection.proofs.Theorems.Splitting.Children.{inner, sibling_lacks, child_middle, child_kept, child_size, child_facet}
use Rattle.bisection.specs.Theorems.Splitting.Inside.{Lies, whole, part}
use Rattle.bisection.proofs.Theorems.Splitting.Inside.{inside_lies}
use Rattle.bisection.specs.Theorems.Splitting.Agreement.{ChildAcross, number_across}

-- the code of a cell's child
module _ {code : List ℕ} {vs : Cell} (c : IsCell code vs) (b : ℕ) where
  abbrev pub code_of_child : List ℕ
  code_of_child = code_of c.root (c.path ++ b ∷ [])

  pub child_dimension : dimension_of code_of_child ≡ dimension_of code
  child_dimension = dimension_of_code c.root (c.path ++ b ∷ []) ∙ length_root c.is_code

  pub child_depth : depth_of code_of_child ≡ suc (depth_of code)
  child_depth = depth_of_code c.root (c.path ++ b ∷ []) ∙ simp length-append (omega (arith, length_path_of c.is_code))

  pub child_is_code : b ≤ 1 → depth_of code < greatest_depth (dimension_of code) → IsCodeOf code_of_child c.root (c.path ++ b ∷ [])
  child_is_code = child_code_of c.is_code refl

  pub child_is_cell : b ≤ 1 → depth_of code < greatest_depth (dimension_of code) → IsCell code_of_child (child b (split_place (dimension_of code) (depth_of code)) vs)
  child_is_cell small deep = child_cell c.is_code refl small deep c.is

-- the child of one cell is no other cell's
one_parent : {code code' : List ℕ} {vs ws : Cell} (c : IsCell code vs) (c' : IsCell code' ws) (b b' : ℕ)
    → IsCodeOf (code_of_child c b) c.root (c.path ++ b ∷ []) → IsCodeOf (code_of_child c' b') c'.root (c'.path ++ b' ∷ []) → code_of_child c b ≡ code_of_child c' b' → code ≡ code'
one_parent c c' b b' u u' e = let o = one_path (rw e at u) u' in c.is_code.is ∙ rw (o.0, shorter c.path c'.path b b' o.1) refl ∙ sym c'.is_code.is

-- the other end of the split edge
other_end : (b : ℕ) {k i : ℕ} → (i ≡ 0) ⊎ (i ≡ k) → i ≢ lacks b k → i ≡ keeps b k
other_end zero (inl e) n = e
other_end zero (inr e) n = absurd (n e)
other_end (suc b) (inl e) n = absurd (n e)
other_end (suc b) (inr e) n = e

lacks_end : (b k : ℕ) → (lacks b k ≡ 0) ⊎ (lacks b k ≡ k)
lacks_end zero k = inr refl
lacks_end (suc b) k = inl refl

module _ (i i' b : ℕ) where
  pub number_kept : i' ≡ i → number_across i i' b ≡ b
  unfolding number_across
  number_kept e = simp eq-eqb

  pub number_changed : i' ≢ i → number_across i i' b ≡ 1 - b
  unfolding number_across
  number_changed n = simp ne_eqb

  pub number_small : b ≤ 1 → number_across i i' b ≤ 1
  number_small l = go (ℕ_discrete i' i)
    where
      go : Dec (i' ≡ i) → number_across i i' b ≤ 1
      go (yes e) = omega (arith, number_kept e)
      go (no n) = omega (arith, number_changed n)

module _ {code : List ℕ} {vs : Cell} (c : IsCell code vs) (deep : depth_of code < greatest_depth (dimension_of code)) (b : ℕ) (small : b ≤ 1)
    {i j : ℕ} (il : i ≤ dimension_of code) (jl : j ≤ dimension_of code) (inside : LiesInside (facet j (child b (split_place (dimension_of code) (depth_of code)) vs)) (facet i vs)) where
  abbrev d : ℕ
  d = dimension_of code

  abbrev k : ℕ
  k = split_place (dimension_of code) (depth_of code)

  abbrev us : Cell
  us = child b k vs

  kd : k ≤ d
  kd = (range (coded c)).1

  z : Sized d vs
  z = (coded c).drawn.sized

  u : IsCell (code_of_child c b) us
  u = child_is_cell c b small deep

  same_child : {child_code : List ℕ} → IsCell child_code us → code_of_child c b ≡ child_code
  same_child v = same_code u v refl

  -- in a face of the cube
  pub agree_face : InFace d (facet i vs) → InFace d (facet j us)
  agree_face = inside_face dims inside
    where
      y : Sized d us
      y = sized_child d k vs z kd b

      dims : (v : Point) → Memᴰ v (facet j us) → length v ≡ d
      dims v m = let p : OtherPlace v j us = mem_facet us j (omega (arith, y.size)) m in rw p.is (y.dims p.place (omega (arith, p.below, y.size)))

  pub agree_alone : {child_code : List ℕ} → IsCell child_code us → InFace d (facet i vs) → (other : List ℕ) → ¬ Shares j child_code other
  agree_alone {child_code} v w = face_alone v j (rw dims jl) (rw dims (agree_face w))
    where
      dims : dimension_of child_code ≡ d
      dims = rw (same_child v) at (child_dimension c b)

  -- in none
  module _ {code' : List ℕ} {ws : Cell} {i' : ℕ} (c' : IsCell code' ws) (x : Across code i code' i') where
    z' : Sized d ws
    z' = (coded_at x.shares.dimension x.shares.depth c').drawn.sized

    -- the whole facet: the child across that lacks the end i' has it too
    whole_facet : j ≡ k → i ≡ lacks b k → (n : ℕ) → i' ≡ lacks n k → facet j us ≡ facet j (child n k ws)
    whole_facet e q n h = rw e (child_facet z k kd b ∙ (rw (q, h) at (across_facets c c' il x)) ∙ sym (child_facet z' k kd n))

    abbrev n : ℕ
    n = number_across i i' b

    ended : j ≡ k → i ≡ lacks b k → Dec (i' ≡ i) → facet j us ≡ facet j (child n k ws)
    ended e q (yes r) = rw (number_kept i i' b r) (whole_facet e q b (r ∙ q))
    ended e q (no r) = rw (number_changed i i' b r) (whole_facet e q (1 - b) (other_end b end (λ h. r (h ∙ sym q)) ∙ sym (sibling_lacks b k small)))
      where
        end : (i' ≡ 0) ⊎ (i' ≡ k)
        end = (across_ends c c' il x).there (subst (λ (t : ℕ). (t ≡ 0) ⊎ (t ≡ k)) (sym q) (lacks_end b k))

    -- a part of it: place by place
    parted : (t : ℕ) → t < d → j ≡ skip k t → i ≡ skip (lacks b k) t → i ≢ keeps b k → facet j us ≡ facet j (child n k ws)
    parted t l p q o = rw (number_kept i i' b edge.0)
        (same_facet us (child b k ws) j j (child_size z k kd b) (child_size z' k kd b) jl jl (λ s h. at (skip j s) (skip_in j s h) (skip_other j s)))
      where
        free : (i ≢ 0) × (i ≢ k)
        free = inner b (λ h. skip_other (lacks b k) t (sym q ∙ h)) o

        edge : (i' ≡ i) × (vertex vs 0 ≡ vertex ws 0) × (vertex vs k ≡ vertex ws k)
        edge = across_edge c c' il x free.0 free.1

        -- the vertices that are not the middle are those of the two cells, and not vertex i
        old : (s : ℕ) → s < d → skip k s ≢ j → vertex us (skip k s) ≡ vertex (child b k ws) (skip k s)
        old s h e = child_kept z k kd b s
            ∙ across_kept c c' il x edge.0 (skip (lacks b k) s) (skip_in (lacks b k) s h) (λ r. e (ap (skip k) (skip_one (lacks b k) s t (r ∙ q)) ∙ sym p))
            ∙ sym (child_kept z' k kd b s)

        at : (v : ℕ) → v ≤ d → v ≢ j → vertex us v ≡ vertex (child b k ws) v
        at v h e = go (ℕ_discrete v k)
          where
            go : Dec (v ≡ k) → vertex us v ≡ vertex (child b k ws) v
            go (yes r) = rw (r, child_middle z k kd b, child_middle z' k kd b, edge.1, edge.2) refl
            go (no r) =
                let s : Skipped d k v = skipped k v kd h r in
                subst (λ (y : ℕ). vertex us y ≡ vertex (child b k ws) y) s.is (old s.from s.below (λ y. e (sym s.is ∙ y)))

    facets : facet j us ≡ facet j (child n k ws)
    facets = go (inside_lies (coded c) deep b i j il jl inside)
      where
        go : Lies d b k i j → facet j us ≡ facet j (child n k ws)
        go (whole e q) = ended e q (ℕ_discrete i' i)
        go (part t l p q o) = parted t l p q o

    deep' : depth_of code' < greatest_depth (dimension_of code')
    deep' = rw (← x.shares.dimension, ← x.shares.depth) deep

    u' : IsCell (code_of_child c' n) (child n k ws)
    u' = rw (x.shares.dimension, x.shares.depth) (child_is_cell c' n (number_small i i' b small) deep')

    apart : code_of_child c b ≢ code_of_child c' n
    apart e = x.shares.another (one_parent c c' b n (child_is_code c b small deep) (child_is_code c' n (number_small i i' b small) deep') e)

    shares : Shares j (code_of_child c b) (code_of_child c' n)
    shares = record {
      vs = us;
      ws = child n k ws;
      cell = u;
      cell' = u';
      another = apart;
      dimension = rw (child_dimension c b, child_dimension c' n) x.shares.dimension;
      depth = rw (child_depth c b, child_depth c' n, x.shares.depth) refl;
      has = λ v m. facet_part (child n k ws) j (omega (arith, child_size z' k kd n)) (subst (Memᴰ v) facets m);
    }

    pub agree_across : {child_code : List ℕ} → IsCell child_code us → ChildAcross child_code j k ws (number_across i i' b)
    unfolding shares
    agree_across v = subst (λ (y : List ℕ). ChildAcross y j k ws n) (same_child v) (record { child_code' = code_of_child c' n; cell = u'; across = shares_across jl' shares j jl' back })
      where
        jl' : j ≤ dimension_of (code_of_child c b)
        jl' = rw (child_dimension c b) jl

        back : HasAll (facet j (child n k ws)) us
        back v m = facet_part us j (omega (arith, child_size z k kd b)) (subst (Memᴰ v) (sym facets) m)
