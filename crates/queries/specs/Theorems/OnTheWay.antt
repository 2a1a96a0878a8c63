-- The leaf at a point is the one leaf on the way down to it: those before it lie in a half, or in a root, that does not contain the
-- point. So no leaf needs a test, and every good sheet has a leaf at every point of the cube.
use Rattle.std.specs.Prelude.{◌≡◌, refl, true, ◌⊎◌, ℕ, zero, suc, ◌≤◌, ◌<◌, get_or}
use Rattle.std.proofs.Math.Path.{sym, ap}
use Rattle.std.proofs.Common.{◌∙◌, subst, inl, inr, arith}
use mathlib.Core.List.{List, [], ◌∷◌, ◌++◌, append_assoc}
use Rattle.std.proofs.Math.ListN.{length, length-append}
use Rattle.dimension.specs.Sizes.{is_dimension, greatest_depth}
use Rattle.bisection.specs.Cells.{Point, cell_of}
use Rattle.bisection.specs.Roots.{GoodRoot, roots}
use Rattle.bisection.specs.Weights.{Inside}
use Rattle.sheets.specs.Forests.{TreeCell, tree_cell, child_of, Tree, leaf, node, leaves, Forest, more, root_cells, NoDeeper, no_deeper_more, Leaves}
use Rattle.sheets.specs.Sheets.{leaf_in}
use Rattle.sheets.specs.Theorems.Todo.{within_front}
use Rattle.sheets.specs.Theorems.Listing.{RootsIn, roots_more, roots_in}
use Rattle.points.specs.Roots.{FirstRoot}
use Rattle.points.proofs.Theorems.Cells.{in_parent, inside_above}
use Rattle.ways.specs.Ways.{Way}
use Rattle.queries.specs.Queries.{cell_in, LeafAt}

abbrev Holds : Point → TreeCell → Type 0
Holds p c = Inside (cell_of c.root c.path) p

-- c is the first of a list that contains the point; none of a list does
data FirstIn (p : Point) : List TreeCell → TreeCell → Type 0 where
  found : {c : TreeCell} {cs : List TreeCell} → Holds p c → FirstIn p (c ∷ cs) c
  passed : {h c : TreeCell} {cs : List TreeCell} → (Holds p h → ⊥) → FirstIn p cs c → FirstIn p (h ∷ cs) c

data NoneIn (p : Point) : List TreeCell → Type 0 where
  all_passed : NoneIn p []
  one_passed : {c : TreeCell} {cs : List TreeCell} → (Holds p c → ⊥) → NoneIn p cs → NoneIn p (c ∷ cs)

none_join : {p : Point} {xs ys : List TreeCell} → NoneIn p xs → NoneIn p ys → NoneIn p (xs ++ ys)
none_join all_passed m = m
none_join (one_passed h n) m = one_passed h (none_join n m)

first_left : {p : Point} {xs : List TreeCell} {c : TreeCell} (ys : List TreeCell) → FirstIn p xs c → FirstIn p (xs ++ ys) c
first_left ys (found h) = found h
first_left ys (passed n f) = passed n (first_left ys f)

first_right : {p : Point} {xs ys : List TreeCell} {c : TreeCell} → NoneIn p xs → FirstIn p ys c → FirstIn p (xs ++ ys) c
first_right all_passed f = f
first_right (one_passed h n) f = passed h (first_right n f)

-- its number
record At (cs : List TreeCell) (p : Point) (c : TreeCell) : Type 0 where
  number : ℕ
  leaf_at : LeafAt cs p number
  is : leaf_in cs number ≡ c

number_of : {p : Point} {cs : List TreeCell} {c : TreeCell} → FirstIn p cs c → At cs p c
number_of (found h) = record { number = 0; leaf_at = record { number = omega arith; inside = h; first = λ j l. absurd (omega arith) }; is = refl }
number_of {p} (passed {h = h} {cs = cs} n f) = let a = number_of f in record { number = suc a.number; leaf_at = record { number = omega (arith, a.leaf_at.number); inside = a.leaf_at.inside; first = before a.leaf_at.first }; is = a.is }
  where
    before : {i : ℕ} → ((j : ℕ) → j < i → Inside (cell_in cs j) p → ⊥) → (j : ℕ) → j < suc i → Inside (cell_in (h ∷ cs) j) p → ⊥
    before t zero l = n
    before t (suc j) l = t j (omega arith)

within_back : {D : ℕ} (xs : List TreeCell) {ys : List TreeCell} → NoDeeper D (xs ++ ys) → NoDeeper D ys
within_back [] w = w
within_back (x ∷ xs) (no_deeper_more h w) = within_back xs w

tree_deep : {D : ℕ} (c : TreeCell) (t : Tree) → NoDeeper D (leaves c t) → length c.path ≤ D
unfolding leaves
tree_deep c leaf (no_deeper_more h w) = h
tree_deep c (node a b) w = omega (arith, tree_deep (child_of 0 c) a (within_front (leaves (child_of 0 c) a) (leaves (child_of 1 c) b) w), length-append c.path (0 ∷ []))

-- a leaf on the way, the first that contains the point
record OnWay (root : List ℕ) (p : Point) (way : List ℕ) (ls : List TreeCell) : Type 0 where
  path : List ℕ
  rest : List ℕ
  is : way ≡ path ++ rest
  first : FirstIn p ls (tree_cell root path)

module _ (root : List ℕ) (good : GoodRoot root) (p : Point) (dims : length p ≡ length root) where
  abbrev deepest : ℕ
  deepest = greatest_depth (length root)

  abbrev leaves_of : List ℕ → Tree → List TreeCell
  leaves_of path t = leaves (tree_cell root path) t

  -- the leaves of a split cell, half by half
  module _ (path : List ℕ) (a b : Tree) (w : NoDeeper deepest (leaves_of (path ++ 0 ∷ []) a ++ leaves_of (path ++ 1 ∷ []) b)) where
    low : NoDeeper deepest (leaves_of (path ++ 0 ∷ []) a)
    low = within_front (leaves_of (path ++ 0 ∷ []) a) (leaves_of (path ++ 1 ∷ []) b) w

    high : NoDeeper deepest (leaves_of (path ++ 1 ∷ []) b)
    high = within_back (leaves_of (path ++ 0 ∷ []) a) w

    split_deep : length path < deepest
    split_deep = omega (arith, tree_deep (tree_cell root (path ++ 0 ∷ [])) a low, length-append path (0 ∷ []))

  -- no leaf of a cell that does not contain the point contains it
  none_of : (path : List ℕ) (t : Tree) → NoDeeper deepest (leaves_of path t) → (Inside (cell_of root path) p → ⊥) → NoneIn p (leaves_of path t)
  unfolding leaves
  none_of path leaf w n = one_passed n all_passed
  none_of path (node a b) w n = none_join
      (none_of (path ++ 0 ∷ []) a (low path a b w) (λ h. n (in_parent root good dims path 0 (split_deep path a b w) h)))
      (none_of (path ++ 1 ∷ []) b (high path a b w) (λ h. n (in_parent root good dims path 1 (split_deep path a b w) h)))

  module _ (way : List ℕ) (g : Way root way p) (full : length way ≡ deepest) where
    on_way : (t : Tree) (path rest : List ℕ) → way ≡ path ++ rest → NoDeeper deepest (leaves_of path t) → OnWay root p way (leaves_of path t)
    unfolding leaves
    on_way leaf path rest e w = record { path = path; rest = rest; is = e; first = found {c = tree_cell root path} (inside_above root good dims path rest (omega (arith, length-append path rest, ap length e, full)) (subst (λ (q : List ℕ). Inside (cell_of root q) p) e g.inside)) }
    on_way (node a b) path [] e w = absurd (omega (arith, split_deep path a b w, length-append path [], ap length e, full))
    on_way (node a b) path (s ∷ rest) e w = go (g.steps path rest s e) (λ q. on_way a (path ++ 0 ∷ []) rest q (low path a b w)) (λ q. on_way b (path ++ 1 ∷ []) rest q (high path a b w))
      where
        by : (x : ℕ) → s ≡ x → way ≡ (path ++ x ∷ []) ++ rest
        by x z = e ∙ ap (λ (y : ℕ). path ++ y ∷ rest) z ∙ sym (append_assoc path (x ∷ []) rest)

        go : (s ≡ 0) ⊎ ((s ≡ 1) × (Inside (cell_of root (path ++ 0 ∷ [])) p → ⊥)) → (way ≡ (path ++ 0 ∷ []) ++ rest → OnWay root p way (leaves_of (path ++ 0 ∷ []) a)) → (way ≡ (path ++ 1 ∷ []) ++ rest → OnWay root p way (leaves_of (path ++ 1 ∷ []) b))
            → OnWay root p way (leaves_of (path ++ 0 ∷ []) a ++ leaves_of (path ++ 1 ∷ []) b)
        go (inl z) l r = let o = l (by 0 z) in record { path = o.path; rest = o.rest; is = o.is; first = first_left (leaves_of (path ++ 1 ∷ []) b) o.first }
        go (inr z) l r = let o = r (by 1 z.0) in record { path = o.path; rest = o.rest; is = o.is; first = first_right (none_of (path ++ 0 ∷ []) a (low path a b w) z.1) o.first }

-- the forest on the roots: the leaf on the way
in_forest : {d : ℕ} {p : Point} {ls : List TreeCell} (rs : List (List ℕ)) → RootsIn d rs → length p ≡ d → Forest (root_cells rs) ls → NoDeeper (greatest_depth d) ls
    → (n : ℕ) → FirstRoot rs p n → (way : List ℕ) → Way (get_or rs n []) way p → length way ≡ greatest_depth d → OnWay (get_or rs n []) p way ls
unfolding root_cells
in_forest [] i dims f w n g way h full = absurd (omega (arith, g.small))
in_forest {d} {p} (r ∷ rs) (roots_more good e i) dims (more {ls = ls} t q f) w n g way h full = subst (OnWay (get_or (r ∷ rs) n []) p way) (sym q)
    (go n g h (λ m k j. in_forest rs i dims f (within_back (leaves (tree_cell r []) t) inner) m k way j full))
  where
    inner : NoDeeper (greatest_depth d) (leaves (tree_cell r []) t ++ ls)
    inner = subst (NoDeeper (greatest_depth d)) q w

    front : NoDeeper (greatest_depth (length r)) (leaves (tree_cell r []) t)
    front = rw e (within_front (leaves (tree_cell r []) t) ls inner)

    go : (n : ℕ) → FirstRoot (r ∷ rs) p n → Way (get_or (r ∷ rs) n []) way p → ((m : ℕ) → FirstRoot rs p m → Way (get_or rs m []) way p → OnWay (get_or rs m []) p way ls)
        → OnWay (get_or (r ∷ rs) n []) p way (leaves (tree_cell r []) t ++ ls)
    go zero g h later = let o = on_way r good p (dims ∙ sym e) way h (full ∙ ap greatest_depth (sym e)) t [] way refl front in
        record { path = o.path; rest = o.rest; is = o.is; first = first_left ls o.first }
    go (suc n) g h later = let o = later n (record { small = omega (arith, g.small); inside = g.inside; none_before = λ j l. g.none_before (suc j) (omega arith) }) h in
        record { path = o.path; rest = o.rest; is = o.is; first = first_right (none_of r good p (dims ∙ sym e) [] t front (g.none_before 0 (omega arith))) o.first }

-- the leaf at the point: of the way's root, and the way goes through it
pub record Found (cs : List TreeCell) (p : Point) (root way : List ℕ) : Type 0 where
  pub number : ℕ
  pub leaf_at : LeafAt cs p number
  pub root_is : (leaf_in cs number).root ≡ root
  pub rest : List ℕ
  pub way_is : way ≡ (leaf_in cs number).path ++ rest

pub leaf_on_way : {d : ℕ} → is_dimension d ≡ true → {cs : List TreeCell} → Leaves (roots d) (greatest_depth d) cs → {p : Point} → length p ≡ d → {n : ℕ} → FirstRoot (roots d) p n
    → {way : List ℕ} → Way (get_or (roots d) n []) way p → length way ≡ greatest_depth d → Found cs p (get_or (roots d) n []) way
leaf_on_way {d} e {cs} v {p} dims {n} g {way} h full = record { number = a.number; leaf_at = a.leaf_at; root_is = ap (λ (c : TreeCell). c.root) a.is; rest = o.rest; way_is = o.is ∙ ap (λ (c : TreeCell). c.path ++ o.rest) (sym a.is) }
  where
    o : OnWay (get_or (roots d) n []) p way cs
    o = in_forest (roots d) (roots_in d e) dims v.forest v.within n g way h full

    a : At cs p (tree_cell (get_or (roots d) n []) o.path)
    a = number_of o.first
