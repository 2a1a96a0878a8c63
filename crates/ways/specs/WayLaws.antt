-- The laws of the way down: it starts at a root and goes on by the step that a half tells, its fronts are ways too, and there is one
-- way of each length. And where a path with one step more starts on the line.
use Rattle.std.specs.Prelude.{◌≡◌, refl, List, [], ◌∷◌, ◌++◌, ◌⊎◌, ℕ, suc, ◌+◌, ◌-◌, ◌*◌, ◌≤◌, length}
use Rattle.std.proofs.Common.{sym, ap, ◌∙◌, subst, append_assoc, inl, inr, arith, length-append}
use Rattle.std.proofs.Math.Nat.{pow-succ'}
use Rattle.dimension.specs.Sizes.{greatest_depth}
use Rattle.bisection.specs.Cells.{Point, cell_of}
use Rattle.bisection.specs.Roots.{GoodRoot}
use Rattle.bisection.specs.Weights.{Inside}
use Rattle.positions.specs.Positions.{start_of}
use Rattle.points.proofs.Theorems.Cells.{inside_above}
use Rattle.ways.specs.Ways.{Way}

-- one step of the way, from the cell of front
abbrev pub WayStep : List ℕ → Point → List ℕ → ℕ → Type 0
WayStep root p front b = (b ≡ 0) ⊎ ((b ≡ 1) × (Inside (cell_of root (front ++ 0 ∷ [])) p → ⊥))

-- where the last of a list stands
data LastOr (xs front : List ℕ) (s b : ℕ) : Type 0 where
  last : xs ≡ front → s ≡ b → LastOr xs front s b
  inner : (more : List ℕ) → xs ≡ front ++ b ∷ more → LastOr xs front s b

last_or : (xs front : List ℕ) (s b : ℕ) (rest : List ℕ) → xs ++ s ∷ [] ≡ front ++ b ∷ rest → LastOr xs front s b
last_or [] [] s b rest e = last refl (cc)
last_or [] (f ∷ front) s b rest e = absurd (omega (arith, ap length e, length-append front (b ∷ rest)))
last_or (x ∷ xs) [] s b rest e = inner xs (let q : x ≡ b = cc in ap (λ (y : ℕ). y ∷ xs) q)
last_or (x ∷ xs) (f ∷ front) s b rest e = go (last_or xs front s b rest (cc))
  where
    first : x ≡ f
    first = cc

    go : LastOr xs front s b → LastOr (x ∷ xs) (f ∷ front) s b
    go (last q r) = last (cc) r
    go (inner more q) = inner more (cc)

pub way_start : {root : List ℕ} {p : Point} → Inside (cell_of root []) p → Way root [] p
way_start h = record { inside = h; steps = λ front rest b e. absurd (omega (arith, ap length e, length-append front (b ∷ rest))) }

pub way_more : {root path : List ℕ} {p : Point} → Way root path p → (s : ℕ) → Inside (cell_of root (path ++ s ∷ [])) p → WayStep root p path s → Way root (path ++ s ∷ []) p
way_more {root} {path} {p} g s i c = record { inside = i; steps = λ front rest b e. go front b (last_or path front s b rest e) }
  where
    go : (front : List ℕ) (b : ℕ) → LastOr path front s b → WayStep root p front b
    go front b (last q r) = subst (WayStep root p front) r (subst (λ (front : List ℕ). WayStep root p front s) q c)
    go front b (inner more q) = g.steps front more b q

module _ (root : List ℕ) (good : GoodRoot root) {p : Point} (dims : length p ≡ length root) where
  -- the front of a way is a way
  pub way_front : (path more : List ℕ) → length path + length more ≤ greatest_depth (length root) → Way root (path ++ more) p → Way root path p
  way_front path more deep g = record {
    inside = inside_above root good dims path more deep g.inside;
    steps = λ front rest b e. g.steps front (rest ++ more) b (ap (λ (l : List ℕ). l ++ more) e ∙ append_assoc front (b ∷ rest) more);
  }

  -- where it takes child 0, that contains the point
  zero_in : {way : List ℕ} → Way root way p → length way ≤ greatest_depth (length root) → (front rest : List ℕ) → way ≡ front ++ 0 ∷ rest → Inside (cell_of root (front ++ 0 ∷ [])) p
  zero_in g deep front rest e = inside_above root good dims (front ++ 0 ∷ []) rest (omega (arith, ap length e, length-append front (0 ∷ rest), length-append front (0 ∷ [])))
      (subst (λ (w : List ℕ). Inside (cell_of root w) p) (e ∙ sym (append_assoc front (0 ∷ []) rest)) g.inside)

  -- and two ways of one length are one
  module _ {a b : List ℕ} (g : Way root a p) (h : Way root b p) (deep : length a ≤ greatest_depth (length root)) (size : length a ≡ length b) where
    same_step : (front xs ys : List ℕ) (x y : ℕ) → a ≡ front ++ x ∷ xs → b ≡ front ++ y ∷ ys → x ≡ y
    same_step front xs ys x y e f = go (g.steps front xs x e) (h.steps front ys y f)
      where
        go : WayStep root p front x → WayStep root p front y → x ≡ y
        go (inl q) (inl r) = omega arith
        go (inl q) (inr r) = absurd (r.1 (zero_in g deep front xs (rw q at e)))
        go (inr q) (inl r) = absurd (q.1 (zero_in h (omega arith) front ys (rw r at f)))
        go (inr q) (inr r) = omega (arith, q.0, r.0)

    from : (front xs ys : List ℕ) → a ≡ front ++ xs → b ≡ front ++ ys → length xs ≡ length ys → xs ≡ ys
    from front [] [] e f l = refl
    from front [] (y ∷ ys) e f l = absurd (omega arith)
    from front (x ∷ xs) [] e f l = absurd (omega arith)
    from front (x ∷ xs) (y ∷ ys) e f l = let q = same_step front xs ys x y e f in
        let r = from (front ++ x ∷ []) xs ys (e ∙ sym (append_assoc front (x ∷ []) xs)) (f ∙ ap (λ (z : ℕ). front ++ z ∷ ys) (sym q) ∙ sym (append_assoc front (x ∷ []) ys)) (omega arith) in cc

  pub way_one : {a b : List ℕ} → Way root a p → Way root b p → length a ≤ greatest_depth (length root) → length a ≡ length b → a ≡ b
  way_one {a} {b} g h deep e = from g h deep e [] a b refl refl e

-- a step more doubles where a cell starts
pub start_more : (path : List ℕ) (b : ℕ) → start_of (suc (length path)) (path ++ b ∷ []) ≡ 2 * start_of (length path) path + b
unfolding start_of
start_more [] b = omega arith
start_more (c ∷ path) b = let q : suc (suc (length path)) - 1 ≡ suc (length path) = omega arith in let r : suc (length path) - 1 ≡ length path = omega arith in
    rw (q, r) (omega (arith, start_more path b, ap (λ (z : ℕ). c * z) (pow-succ' 2 (length path))))
