-- The leaves of a good sheet fill the line: on each root in turn one part begins where the last one ends, from the
-- start of the root's stretch to its end. So they stand in tree order, with no gap and no overlap.
use Rattle.std.specs.Prelude.{◌≡◌, Bool, ℕ, ◌+◌, ◌-◌, ◌^◌, ◌≤◌}
use Rattle.std.proofs.Math.Path.{refl, ap, subst}
use Rattle.std.proofs.Common.{sym, ◌∙◌, arith, length-append}
use mathlib.Core.List.{List, [], ◌∷◌, ◌++◌, append_assoc}
use Rattle.std.proofs.Math.ListN.{length}
use Rattle.positions.specs.Positions.{start_of, size_of}
use Rattle.next.specs.Paths.{zeros, zeros_length, steps, steps_length}
use Rattle.sheets.specs.Forests.{TreeCell, tree_cell, child_of, Tree, leaf, node, leaves, Forest, NoDeeper, no_deeper_more, Leaves}
use Rattle.sheets.specs.Forests as forests
use Rattle.sheets.specs.Theorems.Frontier.{State, state, advance, Follows, end, good_follows}
use Rattle.sheets.specs.Theorems.Frontier as frontier
use Rattle.sheets.specs.Theorems.Line.{Advanced, same_root, root_over, advanced, start_zeros}

-- the cells fill what is left: of the first root from a place on, and of all roots behind it
pub data Tiles (M : ℕ) : List (List ℕ) → ℕ → List TreeCell → Type 0 where
  filled : Tiles M [] 0 []
  part : {r : List ℕ} {rs : List (List ℕ)} {cs : List TreeCell} (path : List ℕ) → Tiles M (r ∷ rs) (start_of M path + size_of M path) cs → Tiles M (r ∷ rs) (start_of M path) (tree_cell r path ∷ cs)
  turn : {r : List ℕ} {rs : List (List ℕ)} {cs : List TreeCell} → Tiles M rs 0 cs → Tiles M (r ∷ rs) (2 ^ M) cs

module _ {M : ℕ} where
  part_at : {r : List ℕ} {rs : List (List ℕ)} {cs : List TreeCell} (path : List ℕ) (at to : ℕ) → start_of M path ≡ at → start_of M path + size_of M path ≡ to → Tiles M (r ∷ rs) to cs → Tiles M (r ∷ rs) at (tree_cell r path ∷ cs)
  part_at {r} {rs} {cs} path at to e f t = subst (λ (n : ℕ). Tiles M (r ∷ rs) n (tree_cell r path ∷ cs)) e (part path (subst (λ (n : ℕ). Tiles M (r ∷ rs) n cs) (sym f) t))

  -- the part of a leaf, and then what follows it
  one : (r : List ℕ) (rs : List (List ℕ)) (n : ℕ) (p : List Bool) {cs : List TreeCell} → n + length p ≤ M → Advanced M r rs (zeros n p)
      → ((rs' : List (List ℕ)) (p' : List Bool) → advance r rs (zeros n p) ≡ state rs' p' → (rs' ≡ [] → p' ≡ []) → length p' ≤ M → Tiles M rs' (start_of M (steps p')) cs)
      → Tiles M (r ∷ rs) (start_of M (steps p)) (tree_cell r (steps (zeros n p)) ∷ cs)
  one r rs n p {cs} b (same_root q a h s) ih = part_at (steps (zeros n p)) (start_of M (steps p)) (start_of M (steps q)) (start_zeros M n p b) (long ∙ s) (ih (r ∷ rs) q a (λ e. absurd (omega (arith, ap length e))) h)
    where
      long : start_of M (steps (zeros n p)) + size_of M (steps (zeros n p)) ≡ start_of M (steps (zeros n p)) + 2 ^ (M - length (zeros n p))
      long = unfold size_of in ap (λ (k : ℕ). start_of M (steps (zeros n p)) + 2 ^ (M - k)) (steps_length (zeros n p))
  one r rs n p {cs} b (root_over a s) ih = part_at (steps (zeros n p)) (start_of M (steps p)) (2 ^ M) (start_zeros M n p b) (long ∙ s) (turn (subst (λ (k : ℕ). Tiles M rs k cs) zero_start (ih rs [] a (λ e. refl) (omega arith))))
    where
      long : start_of M (steps (zeros n p)) + size_of M (steps (zeros n p)) ≡ start_of M (steps (zeros n p)) + 2 ^ (M - length (zeros n p))
      long = unfold size_of in ap (λ (k : ℕ). start_of M (steps (zeros n p)) + 2 ^ (M - k)) (steps_length (zeros n p))

      zero_start : start_of M (steps []) ≡ 0
      zero_start = unfold start_of steps in refl

  follows_tiles : {s u : State} {cs : List TreeCell} (rs : List (List ℕ)) (p : List Bool) → s ≡ state rs p → u.roots ≡ [] → (rs ≡ [] → p ≡ []) → length p ≤ M → NoDeeper M cs → Follows s cs u → Tiles M rs (start_of M (steps p)) cs
  follows_tiles rs p e o h l w end = finish rs p (sym (ap (λ (s : State). s.roots) e) ∙ o) h
    where
      finish : (rs : List (List ℕ)) (p : List Bool) → rs ≡ [] → (rs ≡ [] → p ≡ []) → Tiles M rs (start_of M (steps p)) []
      finish rs p q h = rw (q, h q) (unfold start_of steps in filled)
  follows_tiles rs p e o h l (no_deeper_more k w) (frontier.Follows.leaf {r = r} {rs = rs'} {p = p'} {ls = ls} n f) =
      subst (λ (x : List (List ℕ)). Tiles M x (start_of M (steps p)) (tree_cell r (steps (zeros n p')) ∷ ls)) (ap (λ (s : State). s.roots) e)
      (subst (λ (x : List Bool). Tiles M (r ∷ rs') (start_of M (steps x)) (tree_cell r (steps (zeros n p')) ∷ ls)) (ap (λ (s : State). s.path) e)
      (one r rs' n p' (omega (arith, k, steps_length (zeros n p'), zeros_length n p')) (advanced M r rs' (zeros n p') (omega (arith, k, steps_length (zeros n p')))) (λ rs p e h l. follows_tiles rs p e o h l w f)))

-- the leaves of a forest on the roots fill their stretches
pub leaves_tile : {M : ℕ} (roots : List (List ℕ)) {cs : List TreeCell} → Leaves roots M cs → Tiles M roots 0 cs
leaves_tile {M} roots {cs} v = let f = good_follows v in subst (λ (n : ℕ). Tiles M roots n cs) zero_start (follows_tiles roots [] refl f.2 (λ e. refl) (omega arith) v.within f.1)
  where
    zero_start : start_of M (steps []) ≡ 0
    zero_start = unfold start_of steps in refl

-- a tree is determined by its leaves, and a forest by its own
first_leaf : (c : TreeCell) (t : Tree) → (h : TreeCell) × (tail : List TreeCell) × (leaves c t ≡ h ∷ tail) × (length c.path ≤ length h.path)
unfolding leaves
first_leaf c leaf = (c, [], refl, omega arith)
first_leaf c (node a b) =
    let f = first_leaf (child_of 0 c) a in
    (f.0, f.1 ++ leaves (child_of 1 c) b, ap (λ (l : List TreeCell). l ++ leaves (child_of 1 c) b) f.2, omega (arith, f.3, length-append c.path (0 ∷ [])))

not_node : (c : TreeCell) (a b : Tree) (x y : List TreeCell) → c ∷ x ≡ leaves c (node a b) ++ y → ⊥
unfolding leaves
not_node c a b x y e =
    let f = first_leaf (child_of 0 c) a in
    let q : c ∷ x ≡ (f.0 ∷ f.1) ++ (leaves (child_of 1 c) b ++ y) = e ∙ append_assoc (leaves (child_of 0 c) a) (leaves (child_of 1 c) b) y ∙ ap (λ (l : List TreeCell). l ++ (leaves (child_of 1 c) b ++ y)) f.2 in
    let h : c ≡ f.0 = cc in
    omega (arith, f.3, ap (λ (k : TreeCell). length k.path) h, length-append c.path (0 ∷ []))

pub tree_one : (c : TreeCell) (t u : Tree) (x y : List TreeCell) → leaves c t ++ x ≡ leaves c u ++ y → (t ≡ u) × (x ≡ y)
unfolding leaves
tree_one c leaf leaf x y e = let q : x ≡ y = cc in (refl, q)
tree_one c leaf (node a b) x y e = absurd (not_node c a b x y e)
tree_one c (node a b) leaf x y e = absurd (not_node c a b y x (sym e))
tree_one c (node a b) (node a' b') x y e =
    let l = tree_one (child_of 0 c) a a' (leaves (child_of 1 c) b ++ x) (leaves (child_of 1 c) b' ++ y) (sym (append_assoc (leaves (child_of 0 c) a) (leaves (child_of 1 c) b) x) ∙ e ∙ append_assoc (leaves (child_of 0 c) a') (leaves (child_of 1 c) b') y) in
    let r = tree_one (child_of 1 c) b b' x y l.1 in
    (ap (λ (t : Tree). node t b) l.0 ∙ ap (λ (t : Tree). node a' t) r.0, r.1)

unfoldable pub trees_of : {cs ls : List TreeCell} → Forest cs ls → List Tree
trees_of forests.Forest.none = []
trees_of (forests.Forest.more t e f) = t ∷ trees_of f

pub forest_one : {cs cs' ls ls' : List TreeCell} → cs ≡ cs' → ls ≡ ls' → (f : Forest cs ls) (g : Forest cs' ls') → trees_of f ≡ trees_of g
unfolding trees_of
forest_one p q forests.Forest.none forests.Forest.none = refl
forest_one p q forests.Forest.none (forests.Forest.more u e' g) = absurd (let z : ◌≡◌ {A = ℕ} 0 1 = cc in omega arith)
forest_one p q (forests.Forest.more t e f) forests.Forest.none = absurd (let z : ◌≡◌ {A = ℕ} 0 1 = cc in omega arith)
forest_one p q (forests.Forest.more {c = c} {cs = cs} {ls = x} t e f) (forests.Forest.more {c = c'} {cs = cs'} {ls = y} u e' g) =
    let a : c ≡ c' = cc in
    let b : cs ≡ cs' = cc in
    let o = tree_one c t u x y (sym e ∙ q ∙ e' ∙ ap (λ (k : TreeCell). leaves k u ++ y) (sym a)) in
    ap (λ (a : Tree). a ∷ trees_of f) o.0 ∙ ap (λ (l : List Tree). u ∷ l) (forest_one b o.1 f g)
