-- The frontier behind a list of leaves, as the sheet check keeps it: the number of a root, and the next cell in it.
use Rattle.std.specs.Prelude.{◌≡◌, refl, Bool, true, Some, None, length, get_or, drop}
use Rattle.std.proofs.Common.{sym, ◌∙◌, length-drop}
use Rattle.std.proofs.Math.Path.{ap, subst}
use mathlib.Core.List.{List, [], ◌∷◌, ◌++◌}
use Prim.Native.Nat.{ℕ, suc, ◌+◌, ◌≤◌, ◌<◌}
use native.Mathlib.Omega.{arith}
use Rattle.std.proofs.Math.Seq.{drop-cons}
use Rattle.bisection.specs.Roots.{roots}
use Rattle.next.specs.declared.Next.{Next}
use Rattle.next.specs.Paths.{steps, zeros}
use Rattle.next.specs.Nexts.{Stands, Gone, FirstIs}
use Rattle.sheets.specs.Forests.{TreeCell, tree_cell}
use Rattle.sheets.specs.Theorems.Frontier.{advance, advance_on, advance_over, Follows, end, leaf, follows_one}
use Rattle.sheets.specs.Theorems.Frontier.{follows_split, follows_join}
use Rattle.sheets.specs.Theorems.Frontier as frontier
use Rattle.sheets.specs.Theorems.Listing.{GoodCell}
use Rattle.sheets.specs.Theorems.Listing.{CellsIn, cells_none, cells_more, cells_join}

-- in dimension d, after these cells: the number of the frontier's root, and the cell of its path
pub record Ahead (d : ℕ) (cells : List TreeCell) (root : ℕ) (cell : Next) : Type 0 where
  pub cells_in : CellsIn d cells
  pub path : List Bool
  pub follows : Follows (frontier.state (roots d) []) cells (frontier.state (drop root (roots d)) path)
  pub root_in : root ≤ length (roots d)
  pub stands : root < length (roots d) → Stands d cell (get_or (roots d) root []) path

pub ahead_first : (d : ℕ) (n : Next) → FirstIs d 0 n → Ahead d [] 0 n
ahead_first d n f = record { cells_in = cells_none; path = []; follows = end; root_in = omega arith; stands = f.first }

module _ {d : ℕ} {cells : List TreeCell} {root : ℕ} {cell : Next} (w : Ahead d cells root cell) where
  abbrev here : List ℕ
  here = get_or (roots d) root []

  -- the leaf that is the cell or the first one inside it, and the state of the frontier behind it
  module _ (lt : root < length (roots d)) (c : TreeCell) (g : GoodCell c) (ax : length c.root ≡ d) (n : ℕ) (is : c ≡ tree_cell here (steps (zeros n w.path))) where
    rest : List (List ℕ)
    rest = drop (suc root) (roots d)

    roots_here : drop root (roots d) ≡ here ∷ rest
    unfolding rest
    roots_here = drop-cons (roots d) root [] lt

    joined : Follows (frontier.state (roots d) []) (cells ++ c ∷ []) (advance here rest (zeros n w.path))
    joined = follows_join (subst (λ (rs : List (List ℕ)). Follows (frontier.state (roots d) []) cells (frontier.state rs w.path)) roots_here w.follows)
        (subst (λ (x : TreeCell). Follows (frontier.state (here ∷ rest) w.path) (x ∷ []) (advance here rest (zeros n w.path))) (sym is) (leaf n end))

    more_cells : CellsIn d (cells ++ c ∷ [])
    more_cells = cells_join w.cells_in (cells_more g ax cells_none)

    pub ahead_on : {next : Next} → Gone d here (zeros n w.path) (Some next) → Ahead d (cells ++ c ∷ []) root next
    ahead_on on = record {
      cells_in = more_cells;
      path = true ∷ on.path;
      follows = subst (Follows (frontier.state (roots d) []) (cells ++ c ∷ [])) (advance_on here rest (zeros n w.path) on.path on.last
          ∙ ap (λ (rs : List (List ℕ)). frontier.state rs (true ∷ on.path)) (sym roots_here)) joined;
      root_in = w.root_in;
      stands = λ l. on.stands;
    }

    pub ahead_over : {next : Next} → Gone d here (zeros n w.path) None → FirstIs d (root + 1) next → Ahead d (cells ++ c ∷ []) (root + 1) next
    unfolding rest
    ahead_over over q = record {
      cells_in = more_cells;
      path = [];
      follows = subst (Follows (frontier.state (roots d) []) (cells ++ c ∷ [])) (advance_over here rest (zeros n w.path) over ∙ ap (λ (k : ℕ). frontier.state (drop k (roots d)) []) plus) joined;
      root_in = omega arith;
      stands = q.first;
    }
      where
        plus : suc root ≡ root + 1
        plus = omega arith

  -- a leaf that follows is one
  pub record Taken (c : TreeCell) : Type 0 where
    pub root_left : root < length (roots d)
    pub n : ℕ
    pub root_is : c.root ≡ here
    pub path_is : c.path ≡ steps (zeros n w.path)

  taken_by : {s u : frontier.State} {ls : List TreeCell} (c : TreeCell) → s ≡ frontier.state (drop root (roots d)) w.path → ls ≡ c ∷ [] → Follows s ls u → Taken c
  taken_by c e q end = absurd (let z : ◌≡◌ {A = ℕ} 0 1 = cc in omega arith)
  taken_by c e q (leaf {r = r} {rs = rs} {p = p} n g) =
      let a : tree_cell r (steps (zeros n p)) ≡ c = cc in
      let all : r ∷ rs ≡ drop root (roots d) = ap (λ (s : frontier.State). s.roots) e in
      let lt : root < length (roots d) = omega (arith, length-drop root (roots d), ap length all) in
      let first : r ∷ rs ≡ here ∷ drop (suc root) (roots d) = all ∙ drop-cons (roots d) root [] lt in
      record {
        root_left = lt;
        n = n;
        root_is = sym (ap (λ (y : TreeCell). y.root) a) ∙ cc first;
        path_is = sym (ap (λ (y : TreeCell). y.path) a)
            ∙ ap (λ (s : frontier.State). steps (zeros n s.path)) e;
      }

  pub taken : (c : TreeCell) {u : frontier.State} → Follows (frontier.state (roots d) []) (cells ++ c ∷ []) u → Taken c
  taken c {u} f =
      let k = follows_split cells (c ∷ []) f in
      taken_by c refl refl (subst (λ (x : frontier.State). Follows x (c ∷ []) u) (follows_one k.front w.follows) k.back)
