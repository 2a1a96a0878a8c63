-- Trees by the list of cells still to do: a list of leaves begins those of a forest just when each leaf in turn is
-- the first cell still to do, or lies first inside it; it is those of a forest just when nothing is then left.
use Rattle.std.specs.Prelude.{◌≡◌, refl, List, [], ◌∷◌, ◌++◌, ℕ, ◌≤◌, length}
use Rattle.std.proofs.Common.{ap, append_assoc, append-nil, arith, length-append}
use Rattle.sheets.specs.Forests.{TreeCell, tree_cell, child_of, Tree, leaf, node, leaves, Forest, none, more, NoDeeper, no_deeper_none, no_deeper_more, Leaves, root_cells}

-- the leaves of a forest by the cells still to do
pub data Lists : List TreeCell → List TreeCell → Type 0 where
  done : Lists [] []
  whole : {c : TreeCell} {cs ls : List TreeCell} → Lists cs ls → Lists (c ∷ cs) (c ∷ ls)
  split : {c : TreeCell} {cs ls : List TreeCell} → Lists (child_of 0 c ∷ child_of 1 c ∷ cs) ls → Lists (c ∷ cs) ls

-- with cs still to do, c may be the next leaf, and cs' is then still to do
pub data Next : List TreeCell → TreeCell → List TreeCell → Type 0 where
  here : {c : TreeCell} {cs : List TreeCell} → Next (c ∷ cs) c cs
  down : {h c : TreeCell} {cs cs' : List TreeCell} → Next (child_of 0 h ∷ child_of 1 h ∷ cs) c cs' → Next (h ∷ cs) c cs'

pub data Run : List TreeCell → List TreeCell → List TreeCell → Type 0 where
  stop : {cs : List TreeCell} → Run cs [] cs
  step : {c : TreeCell} {cs cs' cs'' ls : List TreeCell} → Next cs c cs' → Run cs' ls cs'' → Run cs (c ∷ ls) cs''

pub record First (cs : List TreeCell) (c : TreeCell) (ls : List TreeCell) : Type 0 where
  pub left : List TreeCell
  pub next : Next cs c left
  pub lists : Lists left ls

pub record Ran (cs ls rest : List TreeCell) : Type 0 where
  pub left : List TreeCell
  pub run : Run cs ls left
  pub lists : Lists left rest

pub within_front : {D : ℕ} (ls ms : List TreeCell) → NoDeeper D (ls ++ ms) → NoDeeper D ls
within_front [] ms a = no_deeper_none
within_front (c ∷ ls) ms (no_deeper_more p a) = no_deeper_more p (within_front ls ms a)

pub within_join : {D : ℕ} {ls ms : List TreeCell} → NoDeeper D ls → NoDeeper D ms → NoDeeper D (ls ++ ms)
within_join no_deeper_none b = b
within_join (no_deeper_more p a) b = no_deeper_more p (within_join a b)

build : {c : TreeCell} {cs : List TreeCell} (t : Tree) (ls : List TreeCell) → Lists cs ls → Lists (c ∷ cs) (leaves c t ++ ls)
unfolding leaves
build leaf ls l = whole l
build {c} (node a b) ls l = rw append_assoc (split (build a (leaves (child_of 1 c) b ++ ls) (build b ls l)))

pub forest_lists : {cs ls : List TreeCell} → Forest cs ls → Lists cs ls
forest_lists none = done
forest_lists (more {ls = ls} t e f) = rw e (build t ls (forest_lists f))

pair : {c : TreeCell} {cs ls : List TreeCell} → Forest (child_of 0 c ∷ child_of 1 c ∷ cs) ls → Forest (c ∷ cs) ls
unfolding leaves
pair {c} {cs} {ls} (more t e (more {ls = ms} u e' f)) = more (node t u) whole_eq f
  where
    whole_eq : ls ≡ (leaves (child_of 0 c) t ++ leaves (child_of 1 c) u) ++ ms
    whole_eq = rw (e, e', append_assoc)

pub lists_forest : {cs ls : List TreeCell} → Lists cs ls → Forest cs ls
unfolding leaves
lists_forest done = none
lists_forest (whole l) = more leaf refl (lists_forest l)
lists_forest (split l) = pair (lists_forest l)

pub first : {cs : List TreeCell} {c : TreeCell} {ls : List TreeCell} → Lists cs (c ∷ ls) → First cs c ls
first (whole {cs = cs} l) = record { left = cs; next = here; lists = l }
first (split l) = let f = first l in record { left = f.left; next = down f.next; lists = f.lists }

pub again : {c : TreeCell} {cs cs' ls : List TreeCell} → Next cs c cs' → Lists cs' ls → Lists cs (c ∷ ls)
again here l = whole l
again (down r) l = split (again r l)

pub ran : (cs ls rest : List TreeCell) → Lists cs (ls ++ rest) → Ran cs ls rest
ran cs [] rest l = record { left = cs; run = stop; lists = l }
ran cs (c ∷ ls) rest l =
    let f = first l in
    let g = ran f.left ls rest f.lists in
    record { left = g.left; run = step f.next g.run; lists = g.lists }

pub unran : {cs ls left rest : List TreeCell} → Run cs ls left → Lists left rest → Lists cs (ls ++ rest)
unran stop l = l
unran (step n r) l = again n (unran r l)

-- any list of cells still to do can be finished: each of them a leaf
pub finish : (cs : List TreeCell) → Lists cs cs
finish [] = done
finish (c ∷ cs) = whole (finish cs)

lists_nil : {cs : List TreeCell} → Lists cs [] → cs ≡ []
lists_nil done = refl
lists_nil (split l) = absurd (never (lists_nil l))
  where
    never : {x y : TreeCell} {zs : List TreeCell} → ◌≡◌ {A = List TreeCell} (x ∷ y ∷ zs) [] → ⊥
    never e = omega (arith, ap length e)

-- what is still to do stays within the depth
up : {D : ℕ} (b : ℕ) (c : TreeCell) → length (child_of b c).path ≤ D → length c.path ≤ D
up b c h = omega (arith, length-append c.path (b ∷ []))

over : {D : ℕ} (c : TreeCell) → length (child_of 0 c).path ≤ D → length (child_of 1 c).path ≤ D
over c h = omega (arith, length-append c.path (0 ∷ []), length-append c.path (1 ∷ []))

head_within : {D : ℕ} {h c : TreeCell} {cs cs' : List TreeCell} → Next (h ∷ cs) c cs' → length c.path ≤ D → length h.path ≤ D
head_within here o = o
head_within (down {h = h} n) o = up 0 h (head_within n o)

next_within : {D : ℕ} {c : TreeCell} {cs cs' : List TreeCell} → Next cs c cs' → length c.path ≤ D → NoDeeper D cs → NoDeeper D cs'
next_within here o (no_deeper_more p a) = a
next_within (down {h = h} n) o (no_deeper_more p a) = let q = head_within n o in next_within n o (no_deeper_more q (no_deeper_more (over h q) a))

run_within : {D : ℕ} {cs ls left : List TreeCell} → Run cs ls left → NoDeeper D ls → NoDeeper D cs → NoDeeper D left
run_within stop l a = a
run_within (step n r) (no_deeper_more o l) a = run_within r l (next_within n o a)

roots_within : {D : ℕ} (roots : List (List ℕ)) → NoDeeper D (root_cells roots)
unfolding root_cells
roots_within [] = no_deeper_none
roots_within (r ∷ rs) = no_deeper_more {c = tree_cell r []} (omega arith) (roots_within rs)

-- the leaves begin those of a forest exactly when they run; they are those of a forest when nothing is then left
module _ {roots : List (List ℕ)} {D : ℕ} where
  pub begins_run : (ls rest : List TreeCell) → Leaves roots D (ls ++ rest) → (left : List TreeCell) × Run (root_cells roots) ls left
  begins_run ls rest g = let r = ran (root_cells roots) ls rest (forest_lists g.forest) in (r.left, r.run)

  pub run_begins : {ls left : List TreeCell} → Run (root_cells roots) ls left → NoDeeper D ls → Leaves roots D (ls ++ left)
  run_begins {left = left} r w = record { forest = lists_forest (unran r (finish left)); within = within_join w (run_within r w (roots_within roots)) }

  pub good_run : {ls : List TreeCell} → Leaves roots D ls → Run (root_cells roots) ls []
  good_run {ls} g = let r = ran (root_cells roots) ls [] (rw append-nil (forest_lists g.forest)) in rw (lists_nil r.lists) at r.run

  pub run_good : {ls : List TreeCell} → Run (root_cells roots) ls [] → NoDeeper D ls → Leaves roots D ls
  run_good r w = record { forest = rw append-nil at (lists_forest (unran r done)); within = w }
