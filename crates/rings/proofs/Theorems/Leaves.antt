-- The leaves of a sheet's forest as a set of split cells: a leaf is a leaf, and compatible is compatible.
use Rattle.std.specs.Prelude.{◌≡◌, refl, Bool, true, false, ◌⊎◌, ◌≢◌, List, [], ◌∷◌, ◌++◌, ℕ, suc, ◌≤◌, ◌<◌, length}
use Rattle.std.proofs.Common.{sym, ap, ◌∙◌, inl, inr, arith, length-append}
use Rattle.std.proofs.Math.Path.{subst}
use Rattle.std.proofs.Math.Decide.{dec_lt}
use Rattle.std.proofs.Math.Dec.{T}
use Rattle.dimension.specs.Sizes.{is_dimension, greatest_depth, split_place}
use Rattle.bisection.specs.Roots.{roots}
use Rattle.bisection.specs.Facets.{facet, InFace, HasAll}
use Rattle.sheets.specs.Forests.{TreeCell, child_of, Leaves}
use Rattle.sheets.specs.Sheets.{Records, none, more, GoodSheet, leaf_in}
use Rattle.finding.specs.declared.Kind.{Kind}
use Rattle.finding.specs.declared.Kind.TheVariants.{Leaf, Inside, Split}
use Rattle.finding.specs.Finding.{LiesIn, StrictlyIn, Among, is_leaf, inside, split as split_into}
use Rattle.finding.specs.Theorems.OneOfThree.{CellOf, leaf_cell as sheet_leaf, cell_among, among_one}
use Rattle.rings.specs.Compatible.{vertices_of, HasFacet, OneHasFacet, Compatible}
use Rattle.rings.specs.Rings.{code_for, IsLeaf, IsSplit, leaf, split, Matched, present, parent}
use Rattle.rings.proofs.Theorems.Lying.{lies_is, strictly_trans, strictly_child, parent_lies, one_below}
use Rattle.rings.proofs.Theorems.Shape.{Child}
use Rattle.rings.specs.Theorems.Forests.{Splits, Present, root, below, OneOther}
use Rattle.rings.proofs.Theorems.Forests.{present_real}
use Rattle.rings.specs.Theorems.Forests as forest
use Rattle.rings.specs.Theorems.Cells.{bit, Has, shape, LeadsSomewhere}
use Rattle.rings.proofs.Theorems.Cells.{deep, above, front_real, not_face, free_leads}
use Rattle.rings.proofs.Theorems.Bisected.{bisected}

-- ---- leaves of a forest are those of a good sheet, of the one with their codes alone

codes_of : List TreeCell → List ℕ
codes_of [] = []
codes_of (c ∷ cs) = code_for c ++ codes_of cs

listed : (d : ℕ) (cs : List TreeCell) → Records [] 0 d cs (codes_of cs)
unfolding codes_of
listed d [] = none
listed d (c ∷ cs) = more [] (omega arith) refl (listed d cs)

is_leaf_kind : Kind → Bool
is_leaf_kind Leaf = true
is_leaf_kind Inside = false
is_leaf_kind Split = false

module _ (d : ℕ) {leaves : List TreeCell} (known : is_dimension d ≡ true) (v : Leaves (roots d) (greatest_depth d) leaves) where
  good : GoodSheet [] 0 (codes_of leaves) (length leaves)
  good = record { dimension = d; has_dimension = known; cells = leaves; leaves = v; records = listed d leaves; count = refl }

  leaf_cell : (i : ℕ) → i < length leaves → CellOf d (leaf_in leaves i)
  unfolding good
  leaf_cell i l = sheet_leaf good i l

  pub leaf_real : {c : TreeCell} → IsLeaf leaves c → CellOf d c
  leaf_real m = subst (CellOf d) m.is (leaf_cell m.number m.small)

  -- two records are not of one leaf
  pub one_number : {m n : ℕ} → m < length leaves → n < length leaves → leaf_in leaves m ≡ leaf_in leaves n → m ≡ n
  unfolding good
  one_number {m} {n} l h e = (among_one good (leaf_cell n h) (is_leaf l e) (is_leaf h refl)).0

  -- and no leaf lies in another
  pub leaf_alone : {m n : ℕ} → m < length leaves → n < length leaves → StrictlyIn (leaf_in leaves m) (leaf_in leaves n) → ⊥
  unfolding good is_leaf_kind
  leaf_alone {m} {n} l h s = subst T (ap is_leaf_kind (among_one good (leaf_cell m l) (is_leaf l refl) (inside h s)).1) tt

  pub leaf_not_split : {c : TreeCell} → IsLeaf leaves c → ¬ IsSplit leaves c
  leaf_not_split m s = leaf_alone s.small m.small (subst (StrictlyIn (leaf_in leaves s.number)) (sym m.is) s.inside)

  -- every cell is a leaf, or lies in one, or is split
  pub data Stands (c : TreeCell) : Type 0 where
    a_leaf : IsLeaf leaves c → Stands c
    in_leaf : (n : ℕ) → n < length leaves → StrictlyIn c (leaf_in leaves n) → Stands c
    a_split : IsSplit leaves c → Stands c

  pub stands : {c : TreeCell} → CellOf d c → Stands c
  unfolding good
  stands {c} r = go (cell_among good r).among
    where
      go : {n : ℕ} {k : Kind} → Among leaves c n k → Stands c
      go {n} (is_leaf l e) = a_leaf (record { number = n; small = l; is = e })
      go {n} (inside l s) = in_leaf n l s
      go {n} (split_into l s first) = a_split (record { number = n; small = l; inside = s })

  pub splits : Splits (shape d) (IsSplit leaves)
  splits = record { real = λ s. real s; room = λ s. omega (arith, s.inside.deeper, deep (leaf_cell s.number s.small)); parent = λ b {c} s. upward b c s; test = λ c r. test (stands r) }
    where
      real : {c : TreeCell} → IsSplit leaves c → CellOf d c
      real {c} s = front_real c s.inside.lies.rest (subst (CellOf d) (lies_is s.inside.lies) (leaf_cell s.number s.small))

      upward : (b : Bool) (c : TreeCell) → IsSplit leaves (child_of (bit b) c) → IsSplit leaves c
      upward b c s = record { number = s.number; small = s.small; inside = strictly_trans s.inside (strictly_child (bit b) c).lies }

      test : {c : TreeCell} → Stands c → Dec (IsSplit leaves c)
      test (a_leaf m) = no (leaf_not_split m)
      test (in_leaf n l s) = no (λ q. leaf_alone q.small l (strictly_trans q.inside s.lies))
      test (a_split s) = yes s

  -- leaves are leaves
  pub leaf_in_is : {c : TreeCell} → IsLeaf leaves c → forest.Leaf (shape d) (IsSplit leaves) c
  leaf_in_is {c} m = record { present = go (above (leaf_real m)); whole = leaf_not_split m }
    where
      go : (length c.path ≡ 0) ⊎ Child (shape d) c → Present (shape d) (IsSplit leaves) c
      go (inl z) = root (leaf_real m) z
      go (inr k) = below k.number k.parent (record { number = m.number; small = m.small; inside = subst (λ (x : TreeCell). StrictlyIn x k.parent) (sym (m.is ∙ k.is)) (strictly_child (bit k.number) k.parent) }) k.is

  pub leaf_out : {c : TreeCell} → forest.Leaf (shape d) (IsSplit leaves) c → IsLeaf leaves c
  leaf_out {c} l = go (stands (present_real (bisected d known) splits l.present))
    where
      not_in : (n : ℕ) → n < length leaves → StrictlyIn c (leaf_in leaves n) → Present (shape d) (IsSplit leaves) c → ⊥
      not_in n h s (root r z) = omega (arith, s.deeper, z)
      not_in n h s (below b p q e) = leaf_alone q.small h (strictly_trans q.inside (parent_lies (bit b) p (subst (λ (x : TreeCell). StrictlyIn x (leaf_in leaves n)) e s)))

      go : Stands c → IsLeaf leaves c
      go (a_leaf m) = m
      go (in_leaf n h s) = absurd (not_in n h s l.present)
      go (a_split s) = absurd (l.whole s)

  -- a cell inside a leaf is matched exactly where that leaf is its parent and j the place of its newest vertex
  module _ {c : TreeCell} {n : ℕ} (l : n < length leaves) (s : StrictlyIn c (leaf_in leaves n)) {j : ℕ} where
    pub inside_matched : length c.path ≡ suc (length (leaf_in leaves n).path) → j ≡ split_place d (length (leaf_in leaves n).path) → Matched d leaves c j
    inside_matched e q = let o = one_below s (omega arith) in parent (leaf_in leaves n) (record { number = n; small = l; is = refl }) (record { number = o.0; is = o.1; newest = q })

    pub matched_inside : Matched d leaves c j → (length c.path ≡ suc (length (leaf_in leaves n).path)) × (j ≡ split_place d (length (leaf_in leaves n).path))
    matched_inside (present (leaf m)) = absurd (leaf_alone m.small l (subst (λ (x : TreeCell). StrictlyIn x (leaf_in leaves n)) (sym m.is) s))
    matched_inside (present (split q)) = absurd (leaf_alone q.small l (strictly_trans q.inside s.lies))
    matched_inside (parent e m p) = (omega (arith, same, ap (λ (x : TreeCell). length x.path) p.is, length-append e.path (p.number ∷ [])), p.newest ∙ ap (split_place d) same)
      where
        lies : LiesIn e (leaf_in leaves n)
        lies = parent_lies p.number e (subst (λ (x : TreeCell). StrictlyIn x (leaf_in leaves n)) p.is s)

        -- the parent is that leaf
        same : length e.path ≡ length (leaf_in leaves n).path
        same = go (dec_lt (length (leaf_in leaves n).path) (length e.path))
          where
            go : Dec (length (leaf_in leaves n).path < length e.path) → length e.path ≡ length (leaf_in leaves n).path
            go (yes h) = absurd (leaf_alone m.small l (subst (λ (x : TreeCell). StrictlyIn x (leaf_in leaves n)) (sym m.is) (record { lies = lies; deeper = h })))
            go (no h) = omega (arith, ap length lies.path_is, length-append (leaf_in leaves n).path lies.rest)

  -- compatible is compatible: other records are other cells
  module _ {c : TreeCell} (m : IsLeaf leaves c) {i : ℕ} (il : i ≤ d) where
    has_in : {n : ℕ} → HasFacet leaves m.number i n → Has d c i (leaf_in leaves n)
    has_in {n} h = record { facet_of = il; all = subst (λ (x : TreeCell). HasAll (facet i (vertices_of x)) (vertices_of (leaf_in leaves n))) m.is h.has }

    has_out : {e : TreeCell} (n : IsLeaf leaves e) → e ≢ c → HasAll (facet i (vertices_of c)) (vertices_of e) → HasFacet leaves m.number i n.number
    has_out {e} n o h = record {
      small = n.small;
      another = λ q. o (sym n.is ∙ ap (leaf_in leaves) q ∙ m.is);
      has = subst (λ (x : TreeCell). HasAll (facet i (vertices_of x)) (vertices_of (leaf_in leaves n.number))) (sym m.is) (subst (λ (x : TreeCell). HasAll (facet i (vertices_of c)) (vertices_of x)) (sym n.is) h);
    }

    one_in : OneHasFacet leaves m.number i → OneOther (shape d) (IsSplit leaves) c i
    one_in o = record {
      other = leaf_in leaves o.other;
      leaf = leaf_in_is (record { number = o.other; small = o.is.small; is = refl });
      another = λ q. o.is.another (one_number o.is.small m.small (q ∙ sym m.is));
      has = has_in o.is;
      only = λ e l q h. let n = leaf_out l in sym n.is ∙ ap (leaf_in leaves) (o.only n.number (has_out n q h.all));
    }

    one_out : OneOther (shape d) (IsSplit leaves) c i → OneHasFacet leaves m.number i
    one_out o = record {
      other = n.number;
      is = has_out n o.another o.has.all;
      only = λ k h. one_number h.small n.small
          (o.only (leaf_in leaves k) (leaf_in_is (record { number = k; small = h.small; is = refl })) (λ q. h.another (one_number h.small m.small (q ∙ sym m.is))) (has_in h) ∙ sym n.is);
    }
      where
        n : IsLeaf leaves o.other
        n = leaf_out o.leaf

  pub compatible_in : Compatible leaves → forest.Compatible (shape d) (IsSplit leaves)
  compatible_in k c n i j l x = one_in m x.facet_of (k.one m.number m.small i (omega (arith, axes, x.facet_of)) free)
    where
      m : IsLeaf leaves c
      m = leaf_out l

      axes : length (leaf_in leaves m.number).root ≡ d
      axes = (leaf_cell m.number m.small).axes

      free : ¬ InFace (length (leaf_in leaves m.number).root) (facet i (vertices_of (leaf_in leaves m.number)))
      free = rw (axes, m.is) (not_face x)

  pub compatible_out : forest.Compatible (shape d) (IsSplit leaves) → Compatible leaves
  compatible_out k = record { one = λ n l i il free. go n l i (omega (arith, il, (leaf_cell n l).axes)) (rw (leaf_cell n l).axes at free) }
    where
      go : (n : ℕ) → n < length leaves → (i : ℕ) → i ≤ d → ¬ InFace d (facet i (vertices_of (leaf_in leaves n))) → OneHasFacet leaves n i
      go n l i il free = one_out m il (k (leaf_in leaves n) x.n i x.j (leaf_in_is m) x.leads)
        where
          m : IsLeaf leaves (leaf_in leaves n)
          m = record { number = n; small = l; is = refl }

          x : LeadsSomewhere d (leaf_in leaves n) i
          x = free_leads (leaf_cell n l) il free
