-- Document 01, "Sheets": forests of bisected roots, and their leaves in tree order.
-- The definitions hold for any list of roots; a good sheet has all roots of its dimension in dictionary order.
use Rattle.std.specs.Prelude.{◌≡◌, List, [], ◌∷◌, ◌++◌, ℕ, ◌≤◌, length}
use Rattle.bisection.specs.Roots.{Earlier}

-- a cell of the forest: its root, and the path to it
pub record TreeCell : Type 0 where
  pub root : List ℕ
  pub path : List ℕ

abbrev pub tree_cell : List ℕ → List ℕ → TreeCell
tree_cell root path = record { root = root; path = path }

-- child 0 and child 1 of a cell: one step more
abbrev pub child_of : ℕ → TreeCell → TreeCell
child_of b c = tree_cell c.root (c.path ++ b ∷ [])

-- a binary tree: a leaf, or a cell split into its two children
pub data Tree : Type 0 where
  leaf : Tree
  node : Tree → Tree → Tree

-- the leaves of a tree on a cell, in tree order: child 0 before child 1
unfoldable pub leaves : TreeCell → Tree → List TreeCell
leaves c leaf = c ∷ []
leaves c (node first second) = leaves (child_of 0 c) first ++ leaves (child_of 1 c) second

-- a tree on each of the cells: their leaves one after the other
pub data Forest : List TreeCell → List TreeCell → Type 0 where
  none : Forest [] []
  more : {c : TreeCell} {cs ls all : List TreeCell} (t : Tree) → all ≡ leaves c t ++ ls → Forest cs ls → Forest (c ∷ cs) all

-- the cells of the roots: the empty path on each
unfoldable pub root_cells : List (List ℕ) → List TreeCell
root_cells [] = []
root_cells (root ∷ roots) = tree_cell root [] ∷ root_cells roots

-- each of a list of cells is no deeper than a depth
pub data NoDeeper (depth : ℕ) : List TreeCell → Type 0 where
  no_deeper_none : NoDeeper depth []
  no_deeper_more : {c : TreeCell} {cs : List TreeCell} → length c.path ≤ depth → NoDeeper depth cs → NoDeeper depth (c ∷ cs)

-- the leaves of a forest on the roots, none deeper than a depth
pub record Leaves (roots : List (List ℕ)) (depth : ℕ) (ls : List TreeCell) : Type 0 where
  pub forest : Forest (root_cells roots) ls
  pub within : NoDeeper depth ls

-- tree order of any two cells: that of their roots, then dictionary order of their paths, a cell before those inside it
pub data Before (c d : TreeCell) : Type 0 where
  by_root : Earlier c.root d.root → Before c d
  by_path : c.root ≡ d.root → Earlier c.path d.path → Before c d

-- each of a list of cells is before all that follow it
pub data AllBefore (c : TreeCell) : List TreeCell → Type 0 where
  before_none : AllBefore c []
  before_more : {d : TreeCell} {ds : List TreeCell} → Before c d → AllBefore c ds → AllBefore c (d ∷ ds)

pub data InOrder : List TreeCell → Type 0 where
  order_none : InOrder []
  order_more : {c : TreeCell} {cs : List TreeCell} → AllBefore c cs → InOrder cs → InOrder (c ∷ cs)
