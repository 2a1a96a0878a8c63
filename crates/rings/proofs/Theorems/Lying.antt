-- Cells that lie in cells, by their paths.
use Rattle.std.specs.Prelude.{◌≡◌, refl, List, [], ◌∷◌, ◌++◌, ℕ, suc, ◌≤◌, length}
use Rattle.std.proofs.Common.{sym, ap, ◌∙◌, append_assoc, arith, length-append}
use Rattle.bisection.proofs.Theorems.CellChildren.{shorter, longer}
use Rattle.sheets.specs.Forests.{TreeCell, tree_cell, child_of}
use Rattle.finding.specs.Finding.{LiesIn, StrictlyIn}

pub lies_is : {a b : TreeCell} (l : LiesIn a b) → a ≡ tree_cell b.root (b.path ++ l.rest)
lies_is l = λ i. record { root = l.root_is i; path = l.path_is i }

pub strictly_trans : {a b c : TreeCell} → StrictlyIn a b → LiesIn b c → StrictlyIn a c
strictly_trans {a} {b} {c} s l = record {
  lies = record {
    root_is = s.lies.root_is ∙ l.root_is;
    rest = l.rest ++ s.lies.rest;
    path_is = s.lies.path_is ∙ ap (λ (p : List ℕ). p ++ s.lies.rest) l.path_is ∙ append_assoc c.path l.rest s.lies.rest;
  };
  deeper = omega (arith, s.deeper, ap length l.path_is, length-append c.path l.rest);
}

pub strictly_child : (b : ℕ) (c : TreeCell) → StrictlyIn (child_of b c) c
strictly_child b c = record { lies = record { root_is = refl; rest = b ∷ []; path_is = refl }; deeper = omega (arith, length-append c.path (b ∷ [])) }

-- what a child lies in and is not, its parent lies in
pub parent_lies : (b : ℕ) (p : TreeCell) {a : TreeCell} → StrictlyIn (child_of b p) a → LiesIn p a
parent_lies b p {a} s = go s.lies.rest s.lies.path_is
  where
    go : (rest : List ℕ) → p.path ++ b ∷ [] ≡ a.path ++ rest → LiesIn p a
    go [] e = absurd (omega (arith, s.deeper, ap length e, length-append a.path []))
    go (x ∷ rest) e = let l = longer x rest in record {
      root_is = s.lies.root_is;
      rest = l.front;
      path_is = shorter p.path (a.path ++ l.front) b l.last (e ∙ ap (λ (r : List ℕ). a.path ++ r) l.is ∙ sym (append_assoc a.path l.front (l.last ∷ [])));
    }

-- what lies in a cell one step below is its child
pub one_below : {a b : TreeCell} → StrictlyIn a b → length a.path ≤ suc (length b.path) → (n : ℕ) × (a ≡ child_of n b)
one_below {a} {b} s l = go s.lies.rest s.lies.path_is
  where
    go : (rest : List ℕ) → a.path ≡ b.path ++ rest → (n : ℕ) × (a ≡ child_of n b)
    go [] e = absurd (omega (arith, s.deeper, ap length e, length-append b.path []))
    go (n ∷ []) e = (n, λ i. record { root = s.lies.root_is i; path = e i })
    go (n ∷ x ∷ rest) e = absurd (omega (arith, ap length e, length-append b.path (n ∷ x ∷ rest)))
