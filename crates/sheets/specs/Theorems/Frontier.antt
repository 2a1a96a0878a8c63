-- The frontier rule, for any list of roots: after the leaf with root r and path p drop the 1s at the path's end and
-- turn the last 0 into 1, or, where there is no 0, go to the next root; the next leaf is the frontier followed by
-- zeros only. A path is kept here with its last step first, a step 1 as true, so that the rule reads it from its end.
use Rattle.std.specs.Prelude.{◌≡◌, refl, Bool, true, false, List, [], ◌∷◌, ◌++◌, ℕ, zero, suc, length}
use Rattle.std.proofs.Common.{sym, ap, ◌∙◌, arith}
use Rattle.next.specs.Paths.{steps, steps_length, zeros, zeros_length, stripped}
use Rattle.sheets.specs.Forests.{TreeCell, tree_cell, NoDeeper, Leaves, root_cells}
use Rattle.sheets.specs.Theorems.Todo.{Next, here, down, Run, stop, step, begins_run, run_begins, good_run, run_good}

-- the cells after the leaf p of r, and then cs
unfoldable pub after : List ℕ → List Bool → List TreeCell → List TreeCell
after r [] cs = cs
after r (true ∷ p) cs = after r p cs
after r (false ∷ p) cs = tree_cell r (steps (true ∷ p)) ∷ after r p cs

-- the frontier: the roots from its own on, and its path
pub record State : Type 0 where
  pub roots : List (List ℕ)
  pub path : List Bool

abbrev pub state : List (List ℕ) → List Bool → State
state rs p = record { roots = rs; path = p }

unfoldable pub todo : State → List TreeCell
todo s = elim s.roots [ [] ↦ [] | r ∷ rs ↦ tree_cell r (steps s.path) ∷ after r s.path (root_cells rs) ]

-- drop the 1s at the end and turn the last 0 into 1; or the next root
unfoldable pub advance : List ℕ → List (List ℕ) → List Bool → State
advance r rs [] = state rs []
advance r rs (true ∷ p) = advance r rs p
advance r rs (false ∷ p) = state (r ∷ rs) (true ∷ p)

-- the same by what is left without the 1s at the end
pub advance_on : (r : List ℕ) (rs : List (List ℕ)) (q p : List Bool) → stripped q ≡ false ∷ p → advance r rs q ≡ state (r ∷ rs) (true ∷ p)
unfolding advance stripped
advance_on r rs [] p e = absurd (omega (arith, ap length e))
advance_on r rs (true ∷ q) p e = advance_on r rs q p e
advance_on r rs (false ∷ q) p e = let same : q ≡ p = cc in ap (λ (x : List Bool). state (r ∷ rs) (true ∷ x)) same

pub advance_over : (r : List ℕ) (rs : List (List ℕ)) (q : List Bool) → stripped q ≡ [] → advance r rs q ≡ state rs []
unfolding advance stripped
advance_over r rs [] e = refl
advance_over r rs (true ∷ q) e = advance_over r rs q e
advance_over r rs (false ∷ q) e = absurd (omega (arith, ap length e))

-- each leaf in turn is the frontier followed by zeros
pub data Follows : State → List TreeCell → State → Type 0 where
  end : {s : State} → Follows s [] s
  leaf : {r : List ℕ} {rs : List (List ℕ)} {p : List Bool} {ls : List TreeCell} {s : State} (n : ℕ) → Follows (advance r rs (zeros n p)) ls s → Follows (state (r ∷ rs) p) (tree_cell r (steps (zeros n p)) ∷ ls) s

todo_advance : (r : List ℕ) (rs : List (List ℕ)) (p : List Bool) → todo (advance r rs p) ≡ after r p (root_cells rs)
unfolding todo advance after root_cells steps
todo_advance r [] [] = refl
todo_advance r (s ∷ rs) [] = refl
todo_advance r rs (true ∷ p) = todo_advance r rs p
todo_advance r rs (false ∷ p) = refl

next_zeros : (n : ℕ) (r : List ℕ) (p : List Bool) (cs : List TreeCell) → Next (tree_cell r (steps p) ∷ after r p cs) (tree_cell r (steps (zeros n p))) (after r (zeros n p) cs)
unfolding zeros after steps
next_zeros zero r p cs = here
next_zeros (suc n) r p cs = down (next_zeros n r (false ∷ p) cs)

pub record Zeros (r : List ℕ) (p : List Bool) (cs : List TreeCell) (c : TreeCell) (left : List TreeCell) : Type 0 where
  pub n : ℕ
  pub is : c ≡ tree_cell r (steps (zeros n p))
  pub leaves : left ≡ after r (zeros n p) cs

zeros_next : {r : List ℕ} (p : List Bool) {cs ds : List TreeCell} {c : TreeCell} {left : List TreeCell} → ds ≡ tree_cell r (steps p) ∷ after r p cs → Next ds c left → Zeros r p cs c left
unfolding zeros after steps
zeros_next {r} p {cs} e (here {c = c} {cs = cs'}) = record { n = zero; is = cc; leaves = cc }
zeros_next {r} p {cs} e (down {h = h} {cs = cs'} w) =
    let a : h ≡ tree_cell r (steps p) = cc in
    let b : cs' ≡ after r p cs = cc in
    let z = zeros_next {r = r} (false ∷ p) {cs = cs} (rw (a, b) refl) w in record { n = suc z.n; is = z.is; leaves = z.leaves }

pub follows_run : {s s' : State} {ls : List TreeCell} → Follows s ls s' → Run (todo s) ls (todo s')
unfolding todo
follows_run end = stop
follows_run (leaf {r = r} {rs = rs} {p = p} n f) = step (next_zeros n r p (root_cells rs)) (rw todo_advance at (follows_run f))

no_next : {c : TreeCell} {left : List TreeCell} → Next [] c left → ⊥
no_next = elim [ ]

leaf_at : {r : List ℕ} {rs : List (List ℕ)} {p : List Bool} {c : TreeCell} {ls : List TreeCell} {s : State} (n : ℕ) → c ≡ tree_cell r (steps (zeros n p)) → Follows (advance r rs (zeros n p)) ls s → Follows (state (r ∷ rs) p) (c ∷ ls) s
leaf_at n e f = rw e (leaf n f)

pub record Followed (s : State) (ls left : List TreeCell) : Type 0 where
  pub to : State
  pub by : Follows s ls to
  pub todo_left : left ≡ todo to

pub run_follows : (rs : List (List ℕ)) (p : List Bool) {ls cs left : List TreeCell} → cs ≡ todo (state rs p) → Run cs ls left → Followed (state rs p) ls left
unfolding todo
run_follows rs p e stop = record { to = state rs p; by = end; todo_left = e }
run_follows [] p e (step n w) = absurd (no_next (rw e at n))
run_follows (r ∷ rs) p e (step n w) =
    let z = zeros_next p e n in
    let s = advance r rs (zeros z.n p) in
    let f = run_follows s.roots s.path (z.leaves ∙ sym (todo_advance r rs (zeros z.n p))) w in
    record { to = f.to; by = leaf_at z.n z.is f.by; todo_left = f.todo_left }

no_roots : (s : State) → [] ≡ todo s → s.roots ≡ []
unfolding todo
no_roots s = go s.roots
  where
    go : (rs : List (List ℕ)) → [] ≡ todo (state rs s.path) → rs ≡ []
    go [] e = refl
    go (r ∷ rs) e = absurd (omega (arith, ap length e))

roots_todo : (rs : List (List ℕ)) → root_cells rs ≡ todo (state rs [])
unfolding todo after root_cells steps
roots_todo [] = refl
roots_todo (r ∷ rs) = refl

-- the rule: leaves begin those of a forest exactly when they follow the frontier from the first root's empty path,
-- and are those of a forest exactly when no root is then left
module _ {roots : List (List ℕ)} {D : ℕ} where
  pub begins_follows : (ls rest : List TreeCell) → Leaves roots D (ls ++ rest) → (s : State) × Follows (state roots []) ls s
  begins_follows ls rest g =
      let a = begins_run ls rest g in
      let f = run_follows roots [] (roots_todo roots) a.1 in
      (f.to, f.by)

  pub follows_begins : {ls : List TreeCell} {s : State} → Follows (state roots []) ls s → NoDeeper D ls → (rest : List TreeCell) × Leaves roots D (ls ++ rest)
  follows_begins {s = s} f w = (todo s, run_begins (rw roots_todo (follows_run f)) w)

  pub good_follows : {ls : List TreeCell} → Leaves roots D ls → (s : State) × Follows (state roots []) ls s × (s.roots ≡ [])
  good_follows g =
      let f = run_follows roots [] (roots_todo roots) (good_run g) in
      (f.to, f.by, no_roots f.to f.todo_left)

  pub follows_good : {ls : List TreeCell} {p : List Bool} → Follows (state roots []) ls (state [] p) → NoDeeper D ls → Leaves roots D ls
  unfolding todo
  follows_good f w = run_good (rw roots_todo (follows_run f)) w

-- the frontier after a list of leaves is one
follows_same : {s s' t t' : State} {ls ls' : List TreeCell} → s ≡ s' → ls ≡ ls' → Follows s ls t → Follows s' ls' t' → t ≡ t'
follows_same e f end end = e
follows_same e f end (leaf n g) = absurd (let z : ◌≡◌ {A = ℕ} 0 1 = cc in omega arith)
follows_same e f (leaf n g) end = absurd (let z : ◌≡◌ {A = ℕ} 0 1 = cc in omega arith)
follows_same e f (leaf {r = r} {rs = rs} {p = p} {ls = ls} n g) (leaf {r = r'} {rs = rs'} {p = p'} {ls = ls'} n' g') =
    let w : r ∷ rs ≡ r' ∷ rs' = ap (λ (s : State). s.roots) e in
    let q : p ≡ p' = ap (λ (s : State). s.path) e in
    let a : r ≡ r' = cc in
    let b : rs ≡ rs' = cc in
    let g0 : tree_cell r (steps (zeros n p)) ≡ tree_cell r' (steps (zeros n' p')) = cc in
    let h : steps (zeros n p) ≡ steps (zeros n' p') = ap (λ (c : TreeCell). c.path) g0 in
    let m : n ≡ n' = omega (arith, ap length h, ap length q, steps_length (zeros n p), steps_length (zeros n' p'), zeros_length n p, zeros_length n' p') in
    follows_same (rw (a, b, q, m) refl) (cc) g g'

pub follows_one : {s t u : State} {ls : List TreeCell} → Follows s ls t → Follows s ls u → t ≡ u
follows_one f g = follows_same refl refl f g

pub record Split (s : State) (ls ms : List TreeCell) (u : State) : Type 0 where
  pub middle : State
  pub front : Follows s ls middle
  pub back : Follows middle ms u

split_at : (ls ms : List TreeCell) {s u : State} {all : List TreeCell} → all ≡ ls ++ ms → Follows s all u → Split s ls ms u
split_at [] ms {s} e f = record { middle = s; front = end; back = rw e at f }
split_at (l ∷ ls) ms e end = absurd (let z : ◌≡◌ {A = ℕ} 0 1 = cc in omega arith)
split_at (l ∷ ls) ms {u = u} e (leaf {r = r} {rs = rs} {p = p} {ls = ks} n f) =
    let a : l ≡ tree_cell r (steps (zeros n p)) = cc in
    let b : ks ≡ ls ++ ms = cc in
    let k = split_at ls ms b f in
    record { middle = k.middle; front = leaf_at n a k.front; back = k.back }

pub follows_split : (ls ms : List TreeCell) {s u : State} → Follows s (ls ++ ms) u → Split s ls ms u
follows_split ls ms f = split_at ls ms refl f

pub follows_join : {s t u : State} {ls ms : List TreeCell} → Follows s ls t → Follows t ms u → Follows s (ls ++ ms) u
follows_join end g = g
follows_join (leaf n f) g = leaf n (follows_join f g)
