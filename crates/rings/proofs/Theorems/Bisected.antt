-- The bisection satisfies the laws, in every dimension at once. What is left: who has the vertices of a facet of a cell of another depth,
-- for a child's newest vertex is no vertex of a cell no deeper than its parent.
use Rattle.std.specs.Prelude.{◌≡◌, Bool, true, false, ◌⊎◌, ℕ, ◌≤◌, ◌<◌, length}
use Rattle.std.proofs.Common.{sym, ap, ◌∙◌, subst, inl, inr, arith}
use mathlib.Core.List.Memᴰ
use mathlib.Core.List.{List, [], ◌∷◌, Memᴰ}
use Rattle.std.proofs.Math.Decide.{ℕ_discrete}
use Rattle.dimension.specs.Sizes.{is_dimension, greatest_depth, split_place}
use Rattle.bisection.specs.Cells.{Point, Cell, vertex}
use Rattle.bisection.specs.Facets.{facet, HasAll}
use Rattle.bisection.specs.Theorems.Lists.{middle}
use Rattle.bisection.specs.Theorems.Crossing.Points.{OtherPlace}
use Rattle.bisection.proofs.Theorems.Crossing.Points.{Found, mem_place, place_mem, mem_facet, facet_mem, facet_part}
use Rattle.bisection.proofs.Theorems.Splitting.Children.{child_middle, child_facet}
use Rattle.bisection.proofs.Theorems.Splitting.Newest as newest
use Rattle.sheets.specs.Forests.{TreeCell, child_of}
use Rattle.finding.specs.Theorems.OneOfThree.{CellOf}
use Rattle.rings.specs.Compatible.{vertices_of}
use Rattle.rings.proofs.Theorems.Shape.{Laws, lacks}
use Rattle.rings.proofs.Theorems.Cells as cells
use Rattle.rings.specs.Theorems.Cells.{bit, Has, shape}
use Rattle.rings.proofs.Theorems.Cells.{bit_small, child_depth, child_room, front_real, is_cell, dim_of, depth_of_is, sized, size_of, child_points, split_in}
use Rattle.rings.proofs.Theorems.Halving as halving
use Rattle.rings.proofs.Theorems.Halving.{lacks_is}

module _ (d : ℕ) (known : is_dimension d ≡ true) where
  abbrev k : TreeCell → ℕ
  k c = split_place d (length c.path)

  k_in : (c : TreeCell) → split_place d (length c.path) ≤ d
  k_in c = (split_in d known (length c.path)).1

  lacks_in : (b : Bool) (c : TreeCell) → lacks (shape d) b c ≤ d
  lacks_in false c = k_in c
  lacks_in true c = omega arith

  -- the facet of a child without its newest vertex is the parent's without the end that the child lacks
  shared_facet : (b : Bool) {c : TreeCell} → CellOf d c → facet (split_place d (length c.path)) (vertices_of (child_of (bit b) c)) ≡ facet (lacks (shape d) b c) (vertices_of c)
  shared_facet b {c} r = ap (facet (k c)) (child_points (bit b) r) ∙ child_facet (sized r) (k c) (k_in c) (bit b) ∙ ap (λ (i : ℕ). facet i (vertices_of c)) (lacks_is d b c)

  has_child : (b : Bool) {p m : TreeCell} → CellOf d p → Has d (child_of (bit b) p) (split_place d (length p.path)) m → Has d p (lacks (shape d) b p) m
  has_child b {p} {m} r h = record { facet_of = lacks_in b p; all = subst (λ (l : List Point). HasAll l (vertices_of m)) (shared_facet b r) h.all }

  has_parent : (b : Bool) {p m : TreeCell} → CellOf d p → Has d p (lacks (shape d) b p) m → Has d (child_of (bit b) p) (split_place d (length p.path)) m
  has_parent b {p} {m} r h = record { facet_of = k_in p; all = subst (λ (l : List Point). HasAll l (vertices_of m)) (sym (shared_facet b r)) h.all }

  -- the newest vertex of a cell's children
  module _ {p : TreeCell} (r : CellOf d p) (deep : length p.path < greatest_depth d) where
    abbrev born : Point
    born = middle (split_place d (length p.path)) (vertices_of p)

    newest_is : (b : ℕ) → vertex (vertices_of (child_of b p)) (split_place d (length p.path)) ≡ born
    newest_is b = ap (λ (us : Cell). vertex us (k p)) (child_points b r) ∙ child_middle (sized r) (k p) (k_in p) b

    not_older : {m : TreeCell} → CellOf d m → length m.path ≤ length p.path → ¬ Memᴰ born (vertices_of m)
    not_older {m} q l = rw (dim_of r, depth_of_is p) at
        (newest.middle_new (is_cell r) (is_cell q) (dim_of q ∙ sym (dim_of r)) (rw (dim_of r, depth_of_is p) deep) (omega (arith, depth_of_is p, depth_of_is m, l)))

    -- a vertex of a child is its newest, or one of the parent's but the end that it lacks
    child_vertex : (b : Bool) → CellOf d (child_of (bit b) p) → {v : Point} → Memᴰ v (vertices_of (child_of (bit b) p)) → (v ≡ born) ⊎ Memᴰ v (facet (lacks (shape d) b p) (vertices_of p))
    child_vertex b q {v} m = go (ℕ_discrete f.place (k p))
      where
        f : Found [] v (vertices_of (child_of (bit b) p))
        f = mem_place [] m

        go : Dec (f.place ≡ k p) → (v ≡ born) ⊎ Memᴰ v (facet (lacks (shape d) b p) (vertices_of p))
        go (yes e) = inl (f.is ∙ ap (vertex (vertices_of (child_of (bit b) p))) e ∙ newest_is (bit b))
        go (no e) = inr (subst (Memᴰ v) (shared_facet b r) (Memᴰ.cast f.is (facet_mem (vertices_of (child_of (bit b) p)) (k p) (omega (arith, size_of q, k_in p)) f.place f.below e)))

  parent_of : (b : Bool) (p : TreeCell) → CellOf d (child_of (bit b) p) → CellOf d p
  parent_of b p q = front_real p (bit b ∷ []) q

  has_older : (p : TreeCell) {m : TreeCell} {i : ℕ} (b : Bool) → CellOf d (child_of (bit b) p) → CellOf d m → Has d (child_of (bit b) p) i m → length m.path ≤ length p.path → i ≡ split_place d (length p.path)
  has_older p {m} {i} b q rm h l = go (ℕ_discrete i (k p))
    where
      r : CellOf d p
      r = parent_of b p q

      go : Dec (i ≡ k p) → i ≡ k p
      go (yes e) = e
      go (no e) = absurd (not_older r (child_room (bit b) p q) rm l (h.all (middle (k p) (vertices_of p)) (Memᴰ.cast (sym (newest_is r (child_room (bit b) p q) (bit b)))
          (facet_mem (vertices_of (child_of (bit b) p)) i (omega (arith, size_of q, h.facet_of)) (k p) (omega (arith, size_of q, k_in p)) (λ z. e (sym z))))))

  has_up : {c p : TreeCell} {i : ℕ} (b : Bool) → CellOf d c → CellOf d (child_of (bit b) p) → Has d c i (child_of (bit b) p) → length c.path ≤ length p.path → Has d c i p
  has_up {c} {p} {i} b r q h l = record { facet_of = h.facet_of; all = λ v m. go v m (child_vertex rp room b q (h.all v m)) }
    where
      rp : CellOf d p
      rp = parent_of b p q

      room : length p.path < greatest_depth d
      room = child_room (bit b) p q

      go : (v : Point) → Memᴰ v (facet i (vertices_of c)) → (v ≡ middle (k p) (vertices_of p)) ⊎ Memᴰ v (facet (lacks (shape d) b p) (vertices_of p)) → Memᴰ v (vertices_of p)
      go v m (inl e) = absurd (not_older rp room r l (Memᴰ.cast (sym e) (facet_part (vertices_of c) i (omega (arith, size_of r, h.facet_of)) m)))
      go v m (inr s) = facet_part (vertices_of p) (lacks (shape d) b p) (omega (arith, size_of rp, lacks_in b p)) s

  has_lacks : {c : TreeCell} {i : ℕ} (b : Bool) → CellOf d (child_of (bit b) c) → Has d c i (child_of (bit b) c) → i ≡ lacks (shape d) b c
  has_lacks {c} {i} b q h = go (ℕ_discrete i (lacks (shape d) b c))
    where
      r : CellOf d c
      r = parent_of b c q

      end : Point
      end = vertex (vertices_of c) (lacks (shape d) b c)

      room : lacks (shape d) b c < length (vertices_of c)
      room = omega (arith, size_of r, lacks_in b c)

      bad : (end ≡ middle (k c) (vertices_of c)) ⊎ Memᴰ end (facet (lacks (shape d) b c) (vertices_of c)) → ⊥
      bad (inl e) = not_older r (child_room (bit b) c q) r (omega arith) (Memᴰ.cast (sym e) (place_mem [] (vertices_of c) (lacks (shape d) b c) room))
      bad (inr m) = let o : OtherPlace end (lacks (shape d) b c) (vertices_of c) = mem_facet (vertices_of c) (lacks (shape d) b c) room m in
          o.other (sym (newest.vertices_apart (is_cell r) (lacks (shape d) b c) o.place (omega (arith, dim_of r, lacks_in b c)) (omega (arith, o.below, size_of r, dim_of r)) o.is))

      go : Dec (i ≡ lacks (shape d) b c) → i ≡ lacks (shape d) b c
      go (yes e) = e
      go (no e) = absurd (bad (child_vertex r (child_room (bit b) c q) b q (h.all end (facet_mem (vertices_of c) i (omega (arith, size_of r, h.facet_of)) (lacks (shape d) b c) room (λ z. e (sym z))))))

  child_has : (b : Bool) {c : TreeCell} → CellOf d (child_of (bit b) c) → Has d c (lacks (shape d) b c) (child_of (bit b) c)
  child_has b {c} q = has_child b (parent_of b c q) (cells.has_self (child_of (bit b) c) (k_in c) q)

  pub bisected : Laws (shape d)
  bisected = record {
    child_depth = λ b c. child_depth (bit b) c;
    child_one = λ b b' c c' e. cells.child_one (bit b) (bit b') c c' e;
    child_real = λ b r h. cells.child_real (bit b) (bit_small b) r h;
    deep = λ r. cells.deep r;
    above = λ r. cells.above r;
    split_some = λ c. cells.split_some d known (length c.path);
    split_inner = cells.split_inner d known;
    real = λ x. x.beyond;
    level = λ x. cells.level x;
    apart = λ x. cells.apart x;
    back = λ x. cells.back x;
    one = λ x y. cells.one x y;
    ends = λ x e. cells.ends x e;
    up = λ {b} {p} x. halving.up b p x;
    down_end = λ {b} h x. halving.down_end x.cell h b x;
    down_inner = λ h o x. halving.down_inner x.cell h o x;
    has_self = λ {c} r h. cells.has_self c h.facet_of r;
    has_across = λ x. cells.has_across x;
    has_shared = λ x h. cells.has_shared x h;
    has_level = λ r q h e n. cells.has_level r q h e n;
    has_child = λ {b} r h. has_child b r h;
    has_parent = λ {b} r h. has_parent b r h;
    child_has = λ b q. child_has b q;
    has_lacks = λ b q h. has_lacks b q h;
    has_older = λ {p} b q r h l. has_older p b q r h l;
    has_up = λ b r q h l. has_up b r q h l;
  }
