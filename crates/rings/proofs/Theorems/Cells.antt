-- The bisection's cells as a shape: the tree of children, and the crossing laws, from the crossing theorem.
use Rattle.std.specs.Prelude.{◌≡◌, refl, Bool, true, false, ◌⊎◌, ◌≢◌, List, [], ◌∷◌, ◌++◌, ℕ, zero, suc, ◌≤◌, ◌<◌, length, get_or}
use Rattle.std.proofs.Common.{sym, ap, ◌∙◌, subst, inl, inr, arith, length-append}
use Rattle.std.proofs.Math.ListN.{get_or-append}
use Rattle.std.proofs.lemmas.List.{get_or_at}
use Rattle.dimension.specs.Sizes.{is_dimension, greatest_depth, split_place}
use Rattle.dimension.specs.Laws.{dimension, split_range, deeper, Within, Turned}
use Rattle.bisection.specs.Cells.{Point, child}
use Rattle.bisection.specs.Codes.{IsCodeOf, dimension_of, depth_of}
use Rattle.bisection.specs.Facets.{facet, InFace, HasAll, IsCell, Shares, Across}
use Rattle.bisection.proofs.Theorems.CodePaths.{dimension_of_code, depth_of_code, length_root, one_path}
use Rattle.bisection.specs.Theorems.CellChildren.{Longer}
use Rattle.bisection.proofs.Theorems.CellChildren.{cell_of_child, one_step_more, shorter, longer}
use Rattle.bisection.specs.Theorems.Drawn.{Sized}
use Rattle.bisection.proofs.Theorems.Crossing.Points.{facet_part}
use Rattle.bisection.specs.Theorems.Crossing.Coded.{Coded}
use Rattle.bisection.proofs.Theorems.Crossing.Coded.{coded_at}
use Rattle.bisection.proofs.Theorems.Neighbour.{across_free, face_alone, across_not_face, across_facets, across_ends, across_determined, across_back}
use Rattle.sheets.specs.Forests.{TreeCell, tree_cell, child_of}
use Rattle.sheets.specs.Theorems.Listing.{code_of_cell}
use Rattle.finding.specs.Theorems.OneOfThree.{CellOf}
use Rattle.rings.specs.Compatible.{vertices_of}
use Rattle.rings.specs.Rings.{code_for, LeadsTo}
use Rattle.rings.proofs.Theorems.Shape.{End, at_zero, at_split, Child}
use Rattle.rings.specs.Theorems.Cells.{Has, LeadsSomewhere, bit, shape}

pub bit_small : (b : Bool) → bit b ≤ 1
bit_small false = omega arith
bit_small true = omega arith

pub bit_of : (n : ℕ) → n ≤ 1 → (b : Bool) × (n ≡ bit b)
bit_of zero h = (false, refl)
bit_of (suc zero) h = (true, refl)
bit_of (suc (suc n)) h = absurd (omega arith)

-- ---- the tree

pub child_depth : (b : ℕ) (c : TreeCell) → length (child_of b c).path ≡ suc (length c.path)
child_depth b c = omega (arith, length-append c.path (b ∷ []))

pub child_one : (b b' : ℕ) (c c' : TreeCell) → child_of b c ≡ child_of b' c' → c ≡ c'
child_one b b' c c' e = λ i. record { root = ap (λ (x : TreeCell). x.root) e i; path = shorter c.path c'.path b b' (ap (λ (x : TreeCell). x.path) e) i }

pub children_apart : (b b' : ℕ) (c : TreeCell) → child_of b c ≡ child_of b' c → b ≡ b'
children_apart b b' c e = sym (get_or_at c.path b [] 0 (length c.path) refl) ∙ ap (λ (x : TreeCell). get_or x.path (length c.path) 0) e ∙ get_or_at c.path b' [] 0 (length c.path) refl

pub depth_of_is : (c : TreeCell) → depth_of (code_for c) ≡ length c.path
depth_of_is c = depth_of_code c.root c.path

module _ {d : ℕ} where
  pub deep : {c : TreeCell} → CellOf d c → length c.path ≤ greatest_depth d
  deep {c} r = rw (← r.axes) r.good.good_path.depth

  pub child_real : (b : ℕ) → b ≤ 1 → {c : TreeCell} → CellOf d c → length c.path < greatest_depth d → CellOf d (child_of b c)
  child_real b l r h = record { good = record { good_root = r.good.good_root; good_path = one_step_more r.good.good_path l (rw r.axes h) }; axes = r.axes }

  -- what a cell lies in is one too
  pub front_real : (c : TreeCell) (rest : List ℕ) → CellOf d (tree_cell c.root (c.path ++ rest)) → CellOf d c
  front_real c rest r = record {
    good = record {
      good_root = r.good.good_root;
      good_path = record {
        steps = λ i l. rw (get_or-append c.path rest 0 i l) at (r.good.good_path.steps i (omega (arith, l, length-append c.path rest)));
        depth = omega (arith, length-append c.path rest, r.good.good_path.depth);
      };
    };
    axes = r.axes;
  }

  pub child_room : (b : ℕ) (c : TreeCell) → CellOf d (child_of b c) → length c.path < greatest_depth d
  child_room b c r = omega (arith, child_depth b c, deep r)

  pub last_small : (b : ℕ) (c : TreeCell) → CellOf d (child_of b c) → b ≤ 1
  last_small b c r = rw (get_or_at c.path b [] 0 (length c.path) refl) at (r.good.good_path.steps (length c.path) (omega (arith, child_depth b c)))

  pub above : {c : TreeCell} → CellOf d c → (length c.path ≡ 0) ⊎ Child (shape d) c
  above {c} r = go c.path refl
    where
      by_last : (l : Longer c.path) → Child (shape d) c
      by_last l = record {
        number = bits.0;
        parent = tree_cell c.root l.front;
        real = front_real (tree_cell c.root l.front) (l.last ∷ []) whole;
        is = λ i. tree_cell c.root ((l.is ∙ ap (λ (n : ℕ). l.front ++ n ∷ []) bits.1) i);
      }
        where
          whole : CellOf d (tree_cell c.root (l.front ++ l.last ∷ []))
          whole = subst (λ (p : List ℕ). CellOf d (tree_cell c.root p)) l.is r

          bits : (b : Bool) × (l.last ≡ bit b)
          bits = bit_of l.last (last_small l.last (tree_cell c.root l.front) whole)

      go : (p : List ℕ) → c.path ≡ p → (length c.path ≡ 0) ⊎ Child (shape d) c
      go [] e = inl (ap length e)
      go (x ∷ p) e = inr (by_last (subst Longer (sym e) (longer x p)))

  -- ---- its points and its code

  pub is_cell : {c : TreeCell} → CellOf d c → IsCell (code_for c) (vertices_of c)
  is_cell {c} r = record { root = c.root; path = c.path; is_code = code_of_cell r.good; is = refl }

  pub dim_of : {c : TreeCell} → CellOf d c → dimension_of (code_for c) ≡ d
  dim_of {c} r = dimension_of_code c.root c.path ∙ r.axes

  pub coded_cell : {c : TreeCell} → CellOf d c → Coded d (length c.path) (code_for c) (vertices_of c)
  coded_cell {c} r = coded_at (sym (dim_of r)) (sym (depth_of_is c)) (is_cell r)

  pub sized : {c : TreeCell} → CellOf d c → Sized d (vertices_of c)
  sized r = (coded_cell r).drawn.sized

  pub size_of : {c : TreeCell} → CellOf d c → length (vertices_of c) ≡ suc d
  size_of r = (sized r).size

  pub cell_one : {c n : TreeCell} → CellOf d c → CellOf d n → code_for c ≡ code_for n → c ≡ n
  cell_one {c} {n} r q e = let o = one_path (code_of_cell r.good) (subst (λ (l : List ℕ). IsCodeOf l n.root n.path) (sym e) (code_of_cell q.good)) in λ i. record { root = o.0 i; path = o.1 i }

  pub child_points : (b : ℕ) {c : TreeCell} → CellOf d c → vertices_of (child_of b c) ≡ child b (split_place d (length c.path)) (vertices_of c)
  child_points b {c} r = cell_of_child c.root c.path b ∙ ap (λ (n : ℕ). child b (split_place n (length c.path)) (vertices_of c)) r.axes

  -- ---- crossing

  pub has_self : (c : TreeCell) {i : ℕ} → i ≤ d → CellOf d c → Has d c i c
  has_self c {i} l r = record { facet_of = l; all = λ v q. facet_part (vertices_of c) i (omega (arith, l, size_of r)) q }

  module _ {c n : TreeCell} {i j : ℕ} (x : LeadsTo d c i n j) where
    il : i ≤ dimension_of (code_for c)
    il = omega (arith, x.facet_of, dim_of x.cell)

    pub level : length n.path ≡ length c.path
    level = sym (depth_of_is n) ∙ sym x.across.shares.depth ∙ depth_of_is c

    pub apart : n ≢ c
    apart e = x.across.shares.another (ap code_for (sym e))

    pub place_in : j ≤ d
    place_in = omega (arith, x.across.place, dim_of x.cell)

    pub back : LeadsTo d n j c i
    back = record { cell = x.beyond; beyond = x.cell; facet_of = place_in; across = across_back il x.across }

    pub facets : facet i (vertices_of c) ≡ facet j (vertices_of n)
    facets = across_facets (is_cell x.cell) (is_cell x.beyond) il x.across

    pub not_face : ¬ InFace d (facet i (vertices_of c))
    not_face w = across_not_face (is_cell x.cell) (is_cell x.beyond) il x.across (subst (λ (n : ℕ). InFace n (facet i (vertices_of c))) (sym (dim_of x.cell)) w)

    split_is : split_place (dimension_of (code_for c)) (depth_of (code_for c)) ≡ split_place d (length c.path)
    split_is = rw (dim_of x.cell, depth_of_is c) refl

    pub ends : End (shape d) c i → End (shape d) n j
    ends e = go ((across_ends (is_cell x.cell) (is_cell x.beyond) il x.across).there (either e))
      where
        either : End (shape d) c i → (i ≡ 0) ⊎ (i ≡ split_place (dimension_of (code_for c)) (depth_of (code_for c)))
        either (at_zero q) = inl q
        either (at_split q) = inr (q ∙ sym split_is)

        go : (j ≡ 0) ⊎ (j ≡ split_place (dimension_of (code_for c)) (depth_of (code_for c))) → End (shape d) n j
        go (inl q) = at_zero q
        go (inr q) = at_split (q ∙ split_is ∙ ap (split_place d) (sym level))

    pub has_shared : {m : TreeCell} → Has d c i m → Has d n j m
    has_shared {m} h = record { facet_of = place_in; all = subst (λ (l : List Point). HasAll l (vertices_of m)) facets h.all }

  pub has_across : {c n : TreeCell} {i j : ℕ} → LeadsTo d c i n j → Has d c i n
  has_across {n = n} x = has_shared (back x) (has_self n (place_in x) x.beyond)

  pub one : {c n n' : TreeCell} {i j j' : ℕ} → LeadsTo d c i n j → LeadsTo d c i n' j' → (n ≡ n') × (j ≡ j')
  one x y = let o = across_determined (il x) x.across y.across in (cell_one x.beyond y.beyond o.0, o.1)

  pub across_leads : {c : TreeCell} {i : ℕ} → CellOf d c → i ≤ d → {code : List ℕ} {j : ℕ} → Across (code_for c) i code j → LeadsSomewhere d c i
  across_leads {c} {i} r l {code} {j} x = record {
    n = tree_cell x.shares.cell'.root x.shares.cell'.path;
    j = j;
    leads = record {
      cell = r;
      beyond = record { good = record { good_root = o.good_root; good_path = o.good_path }; axes = length_root o ∙ sym x.shares.dimension ∙ dim_of r };
      facet_of = l;
      across = subst (λ (k : List ℕ). Across (code_for c) i k j) o.is x;
    };
  }
    where
      o : IsCodeOf code x.shares.cell'.root x.shares.cell'.path
      o = x.shares.cell'.is_code

  module _ {c : TreeCell} {i : ℕ} (r : CellOf d c) (l : i ≤ d) where
    in_code : i ≤ dimension_of (code_for c)
    in_code = omega (arith, l, dim_of r)

    pub free_leads : ¬ InFace d (facet i (vertices_of c)) → LeadsSomewhere d c i
    free_leads free = across_leads r l (across_free (is_cell r) i in_code (λ w. free (subst (λ (n : ℕ). InFace n (facet i (vertices_of c))) (dim_of r) w)))

  -- another cell of that depth that has all vertices of a facet lies across it
  pub has_level : {c m : TreeCell} {i : ℕ} → CellOf d c → CellOf d m → Has d c i m → length m.path ≡ length c.path → m ≢ c → (j : ℕ) × LeadsTo d c i m j
  has_level {c} {m} {i} r q h e n = (x.j, subst (λ (y : TreeCell). LeadsTo d c i y x.j) (sym (cell_one q x.leads.beyond (x.leads.across.only (code_for m) shares))) x.leads)
    where
      shares : Shares i (code_for c) (code_for m)
      shares = record {
        vs = vertices_of c;
        ws = vertices_of m;
        cell = is_cell r;
        cell' = is_cell q;
        another = λ u. n (sym (cell_one r q u));
        dimension = dim_of r ∙ sym (dim_of q);
        depth = depth_of_is c ∙ sym e ∙ sym (depth_of_is m);
        has = h.all;
      }

      x : LeadsSomewhere d c i
      x = free_leads r h.facet_of (λ w. face_alone (is_cell r) i (in_code r h.facet_of) (rw (dim_of r) w) (code_for m) shares)

-- ---- the place k

module _ (d : ℕ) (known : is_dimension d ≡ true) where
  pub split_in : (D : ℕ) → (1 ≤ split_place d D) × (split_place d D ≤ d)
  split_in D = split_range d D (omega (arith, (dimension d known).two))

  pub split_some : (D : ℕ) → split_place d D ≢ 0
  split_some D e = omega (arith, (split_in D).0)

  -- it is an end of neither child
  pub split_inner : (b : Bool) (c : TreeCell) → ¬ End (shape d) (child_of (bit b) c) (split_place d (length c.path))
  split_inner b c (at_zero q) = split_some (length c.path) q
  split_inner b c (at_split q) = by (deeper d (length c.path) (omega (arith, (dimension d known).two)))
    where
      moved : split_place d (length c.path) ≡ split_place d (suc (length c.path))
      moved = q ∙ ap (split_place d) (child_depth (bit b) c)

      by : Within d (length c.path) ⊎ Turned d (length c.path) → ⊥
      by (inl w) = omega (arith, w.split, moved)
      by (inr t) = omega (arith, t.last, t.split, moved, (dimension d known).two)
