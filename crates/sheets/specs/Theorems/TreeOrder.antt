-- Tree order is a strict order, and it orders all cells: no cell is before itself, what is before a cell is before all
-- that this cell is before, and of any two different cells one is before the other. So neither a weaker relation nor a
-- stronger one passes for it. A cell is before those inside it. All of this holds of dictionary order, and is taken from there.
use Rattle.std.specs.Prelude.{◌≡◌, refl, List, [], ◌∷◌, ◌++◌, ◌⊎◌, ◌≢◌, ℕ, ◌<◌}
use Rattle.std.proofs.Common.{sym, ap, ◌∙◌, subst, inl, inr, arith, lt_trans}
use Rattle.std.proofs.Math.Decide.{dec_lt}
use Rattle.bisection.specs.Roots.{Earlier, inside, smaller, same_step}
use Rattle.sheets.specs.Forests.{TreeCell, tree_cell, Before, by_root, by_path}

-- dictionary order of lists
earlier_apart : {p q : List ℕ} → Earlier p q → p ≢ q
earlier_apart inside e = let z : ◌≡◌ {A = ℕ} 0 1 = cc in omega arith
earlier_apart (smaller {a} {b} h) e = let z : a ≡ b = cc in omega arith
earlier_apart (same_step {p = p} {q = q} h) e = let z : p ≡ q = cc in earlier_apart h z

pub earlier_irreflexive : (p : List ℕ) → Earlier p p → ⊥
earlier_irreflexive p h = earlier_apart h refl

pub earlier_transitive : {p q r : List ℕ} → Earlier p q → Earlier q r → Earlier p r
earlier_transitive inside (smaller k) = inside
earlier_transitive inside (same_step k) = inside
earlier_transitive (smaller h) (smaller k) = smaller (lt_trans h k)
earlier_transitive (smaller h) (same_step k) = smaller h
earlier_transitive (same_step h) (smaller k) = smaller k
earlier_transitive (same_step h) (same_step k) = same_step (earlier_transitive h k)

-- two lists are equal, or one of them is earlier
data Compared (p q : List ℕ) : Type 0 where
  same : p ≡ q → Compared p q
  earlier : Earlier p q → Compared p q
  later : Earlier q p → Compared p q

compare : (p q : List ℕ) → Compared p q
compare [] [] = same refl
compare [] (b ∷ q) = earlier inside
compare (a ∷ p) [] = later inside
compare (a ∷ p) (b ∷ q) = go (dec_lt a b) (dec_lt b a) (compare p q)
  where
    first : Compared p q → Compared (a ∷ p) (a ∷ q)
    first (same e) = same (ap (λ (l : List ℕ). a ∷ l) e)
    first (earlier h) = earlier (same_step h)
    first (later h) = later (same_step h)

    go : Dec (a < b) → Dec (b < a) → Compared p q → Compared (a ∷ p) (b ∷ q)
    go (yes h) k on = earlier (smaller h)
    go (no h) (yes k) on = later (smaller k)
    go (no h) (no k) on = subst (λ (c : ℕ). Compared (a ∷ p) (c ∷ q)) (omega arith) (first on)

pub earlier_total : (p q : List ℕ) → p ≢ q → Earlier p q ⊎ Earlier q p
earlier_total p q n = go (compare p q)
  where
    go : Compared p q → Earlier p q ⊎ Earlier q p
    go (same e) = absurd (n e)
    go (earlier h) = inl h
    go (later h) = inr h

pub earlier_inside : (p : List ℕ) (b : ℕ) (q : List ℕ) → Earlier p (p ++ b ∷ q)
earlier_inside [] b q = inside
earlier_inside (a ∷ p) b q = same_step (earlier_inside p b q)

-- tree order of cells, whatever their dimensions
pub before_irreflexive : (c : TreeCell) → Before c c → ⊥
before_irreflexive c (by_root h) = earlier_irreflexive c.root h
before_irreflexive c (by_path e h) = earlier_irreflexive c.path h

pub before_transitive : {c d e : TreeCell} → Before c d → Before d e → Before c e
before_transitive (by_root h) (by_root k) = by_root (earlier_transitive h k)
before_transitive (by_root h) (by_path f k) = by_root (rw f at h)
before_transitive (by_path e h) (by_root k) = by_root (rw e k)
before_transitive (by_path e h) (by_path f k) = by_path (e ∙ f) (earlier_transitive h k)

pub before_total : (c d : TreeCell) → c ≢ d → Before c d ⊎ Before d c
before_total c d n = go (compare c.root d.root) (compare c.path d.path)
  where
    go : Compared c.root d.root → Compared c.path d.path → Before c d ⊎ Before d c
    go (earlier h) p = inl (by_root h)
    go (later h) p = inr (by_root h)
    go (same e) (earlier h) = inl (by_path e h)
    go (same e) (later h) = inr (by_path (sym e) h)
    go (same e) (same f) = absurd (n (ap (λ (r : List ℕ). tree_cell r c.path) e ∙ ap (tree_cell d.root) f))

pub before_inside : (c : TreeCell) (b : ℕ) (steps : List ℕ) → Before c (tree_cell c.root (c.path ++ b ∷ steps))
before_inside c b steps = by_path refl (earlier_inside c.path b steps)
