-- The leaves of a forest stand in tree order, for any list of roots of which each is earlier than all behind it.
use Rattle.std.specs.Prelude.{◌≡◌, refl, List, [], ◌∷◌, ◌++◌, ℕ, suc, ◌<◌, length, get_or}
use Rattle.std.proofs.Common.{sym, ◌∙◌, subst, append_assoc, append-nil, arith}
use Rattle.bisection.specs.Roots.{Earlier, smaller, same_step}
use Rattle.sheets.specs.Forests.{TreeCell, tree_cell, child_of, Tree, leaf, node, leaves, Forest, none, more, root_cells, Leaves}
use Rattle.sheets.specs.Forests.{Before, by_root, by_path, AllBefore, before_none, before_more, InOrder, order_none, order_more}

-- a cell of a root, behind a path
pub record Below (r : List ℕ) (p : List ℕ) (c : TreeCell) : Type 0 where
  pub root_is : c.root ≡ r
  pub steps : List ℕ
  pub path_is : c.path ≡ p ++ steps

pub data AllBelow (r : List ℕ) (p : List ℕ) : List TreeCell → Type 0 where
  below_none : AllBelow r p []
  below_more : {c : TreeCell} {cs : List TreeCell} → Below r p c → AllBelow r p cs → AllBelow r p (c ∷ cs)

below_join : {r p : List ℕ} {cs ds : List TreeCell} → AllBelow r p cs → AllBelow r p ds → AllBelow r p (cs ++ ds)
below_join below_none m = m
below_join (below_more b l) m = below_more b (below_join l m)

below_up : {r : List ℕ} (p : List ℕ) (b : ℕ) {cs : List TreeCell} → AllBelow r (p ++ b ∷ []) cs → AllBelow r p cs
below_up p b below_none = below_none
below_up p b (below_more x l) =
    below_more (record { root_is = x.root_is; steps = b ∷ x.steps; path_is = x.path_is ∙ append_assoc p (b ∷ []) x.steps }) (below_up p b l)

leaves_below : (c : TreeCell) (t : Tree) → AllBelow c.root c.path (leaves c t)
unfolding leaves
leaves_below c leaf = below_more (record { root_is = refl; steps = []; path_is = sym (append-nil c.path) }) below_none
leaves_below c (node a b) = below_join (below_up c.path 0 (leaves_below (child_of 0 c) a)) (below_up c.path 1 (leaves_below (child_of 1 c) b))

-- what lies behind step 0 is before what lies behind step 1
path_split : (p x y : List ℕ) → Earlier (p ++ 0 ∷ x) (p ++ 1 ∷ y)
path_split [] x y = smaller {a = 0} {b = 1} (omega arith)
path_split (a ∷ p) x y = same_step (path_split p x y)

split_before : {r : List ℕ} (p : List ℕ) {c d : TreeCell} → Below r (p ++ 0 ∷ []) c → Below r (p ++ 1 ∷ []) d → Before c d
split_before p {c} {d} u v = by_path (u.root_is ∙ sym v.root_is) (rw (behind 0 u, behind 1 v) (path_split p u.steps v.steps))
  where
    behind : {r : List ℕ} (b : ℕ) {c : TreeCell} (w : Below r (p ++ b ∷ []) c) → c.path ≡ p ++ b ∷ w.steps
    behind b w = w.path_is ∙ append_assoc p (b ∷ []) w.steps

one_before : {r : List ℕ} (p : List ℕ) {c : TreeCell} {ds : List TreeCell} → Below r (p ++ 0 ∷ []) c → AllBelow r (p ++ 1 ∷ []) ds → AllBefore c ds
one_before p u below_none = before_none
one_before p u (below_more v l) = before_more (split_before p u v) (one_before p u l)

before_join : {c : TreeCell} {cs ds : List TreeCell} → AllBefore c cs → AllBefore c ds → AllBefore c (cs ++ ds)
before_join before_none m = m
before_join (before_more b l) m = before_more b (before_join l m)

-- two lists in tree order, each cell of the first before all of the second
order_join : {r p : List ℕ} {cs ds : List TreeCell} → AllBelow r p cs → ((c : TreeCell) → Below r p c → AllBefore c ds) → InOrder cs → InOrder ds → InOrder (cs ++ ds)
order_join below_none m order_none q = q
order_join (below_more u l) m (order_more b o) q = order_more (before_join b (m _ u)) (order_join l m o q)

tree_order : (c : TreeCell) (t : Tree) → InOrder (leaves c t)
unfolding leaves
tree_order c leaf = order_more before_none order_none
tree_order c (node a b) =
    order_join (leaves_below (child_of 0 c) a) (λ x u. one_before c.path u (leaves_below (child_of 1 c) b)) (tree_order (child_of 0 c) a) (tree_order (child_of 1 c) b)

-- a cell of an earlier root is before all leaves on a root, and so before all leaves of a forest on such roots
root_before : {r p : List ℕ} {c : TreeCell} {ds : List TreeCell} → Earlier c.root r → AllBelow r p ds → AllBefore c ds
root_before e below_none = before_none
root_before {c = c} e (below_more v l) = before_more (by_root (subst (Earlier c.root) (sym v.root_is) e)) (root_before e l)

root_below : {r : List ℕ} {c : TreeCell} (t : Tree) → c ≡ tree_cell r [] → AllBelow r [] (leaves c t)
root_below {r} t e = rw e (leaves_below (tree_cell r []) t)

forest_before : {c : TreeCell} (rs : List (List ℕ)) {cs ls : List TreeCell} → ((j : ℕ) → j < length rs → Earlier c.root (get_or rs j [])) → cs ≡ root_cells rs → Forest cs ls → AllBefore c ls
unfolding root_cells
forest_before [] h e none = before_none
forest_before [] h e (more t q f) = absurd (let z : ◌≡◌ {A = ℕ} 0 1 = cc in omega arith)
forest_before (r ∷ rs) h e none = absurd (let z : ◌≡◌ {A = ℕ} 0 1 = cc in omega arith)
forest_before (r ∷ rs) h e (more {c = k} {cs = cs} t q f) =
    let a : k ≡ tree_cell r [] = cc in
    let b : cs ≡ root_cells rs = cc in
    rw q (before_join (root_before (h 0 (omega arith)) (root_below t a)) (forest_before rs (λ j l. h (suc j) (omega arith)) b f))

-- each root of a list is earlier than all behind it
abbrev pub Rise : List (List ℕ) → Type 0
Rise rs = (i j : ℕ) → i < j → j < length rs → Earlier (get_or rs i []) (get_or rs j [])

forest_order : (rs : List (List ℕ)) {cs ls : List TreeCell} → Rise rs → cs ≡ root_cells rs → Forest cs ls → InOrder ls
unfolding root_cells
forest_order [] h e none = order_none
forest_order [] h e (more t q f) = absurd (let z : ◌≡◌ {A = ℕ} 0 1 = cc in omega arith)
forest_order (r ∷ rs) h e none = absurd (let z : ◌≡◌ {A = ℕ} 0 1 = cc in omega arith)
forest_order (r ∷ rs) h e (more {c = k} {cs = cs} t q f) =
    let a : k ≡ tree_cell r [] = cc in
    let b : cs ≡ root_cells rs = cc in
    rw q (order_join (root_below t a) (λ x u. forest_before rs (λ j l. rw u.root_is (h 0 (suc j) (omega arith) (omega arith))) b f) (tree_order k t)
    (forest_order rs (λ i j l m. h (suc i) (suc j) (omega arith) (omega arith)) b f))

-- the leaves of a forest on the roots are in tree order
pub leaves_in_order : {D : ℕ} (roots : List (List ℕ)) {ls : List TreeCell} → Rise roots → Leaves roots D ls → InOrder ls
leaves_in_order roots h v = forest_order roots h refl v.forest
