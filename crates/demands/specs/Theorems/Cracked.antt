-- Two good sheets in dimension 2: document 01's two leaves, which are compatible, and the small sheet of request No. 4, which is not. Of
-- each root facets 0 and 2 lie in faces of the cube, and facet 1 is the diagonal that the two share.
use Rattle.std.specs.Prelude.{◌≡◌, refl, Bool, true, false, not, ◌&&◌, ◌||◌, ◌⊎◌, ℕ, zero, suc, ◌+◌, ◌≤◌, ◌<◌, eqb, length}
use Rattle.std.proofs.Common.{sym, ap, inl, inr, arith, eq-eqb, ne_eqb}
use Rattle.std.proofs.Math.Bool.{or-true}
use Rattle.std.proofs.lemmas.Bool.{false≢true}
use mathlib.Core.List.{List, [], ◌∷◌, Memᴰ}
use Rattle.dimension.specs.Sizes.{is_dimension, cube_side, halvings, greatest_depth, level, split_place, box_depth}
use Rattle.bisection.specs.Cells.{Point, Cell, coordinate, midpoint, child, moved, corners, root_cell, cell_below, cell_of}
use Rattle.bisection.specs.Roots.{roots, arrangements, joined, picks, axes_from}
use Rattle.bisection.specs.Codes.{minus, axis, negated, turned, stepped, high, minus_on, orthant_to, orthant, step, name_below, name_of, bytes, code_of}
use Rattle.bisection.specs.Refusals.{each}
use Rattle.bisection.specs.Facets.{facet, InFace, HasAll}
use Rattle.bisection.proofs.Theorems.Checked.{each_at}
use Rattle.sheets.specs.Forests.{TreeCell, tree_cell, leaf, node, leaves, root_cells, no_deeper_none, no_deeper_more}
use Rattle.sheets.specs.Forests.{none as forest_none, more as forest_more}
use Rattle.sheets.specs.Sheets.{none, more, leaf_in, Good}
use Rattle.rings.specs.Compatible.{vertices_of, OneHasFacet, Compatible}
use Rattle.demands.specs.TwoLeaves.{two_leaves_good}
use Rattle.demands.specs.Seam.{seam, seam_leaves}

-- the small sheet of request No. 4
unfoldable pub seam_good : Good seam 3
unfolding code_of bytes name_of name_below step stepped turned negated minus axis orthant orthant_to minus_on high level split_place box_depth
    roots arrangements joined picks axes_from root_cells leaves is_dimension halvings greatest_depth
seam_good = record {
  dimension = 2;
  has_dimension = refl;
  cells = seam_leaves;
  leaves = record {
    forest = forest_more (node leaf leaf) refl (forest_more leaf refl forest_none);
    within = no_deeper_more {c = tree_cell (1 ∷ 2 ∷ []) (0 ∷ [])} (omega arith)
        (no_deeper_more {c = tree_cell (1 ∷ 2 ∷ []) (1 ∷ [])} (omega arith) (no_deeper_more {c = tree_cell (2 ∷ 1 ∷ []) []} (omega arith) no_deeper_none));
  };
  records = more (0x0A ∷ 0x00 ∷ 0x14 ∷ 0x00 ∷ 0x3C ∷ 0x00 ∷ []) refl refl
      (more (0x14 ∷ 0x00 ∷ 0x32 ∷ 0x00 ∷ 0x3C ∷ 0x00 ∷ []) refl refl (more (0x0A ∷ 0x00 ∷ 0x1E ∷ 0x00 ∷ 0x32 ∷ 0x00 ∷ []) refl refl none));
  count = refl;
}

-- an edge in a face of the square
in_face : (p q : Point) (a height : ℕ) → 1 ≤ a → a ≤ 2 → (height ≡ 0) ⊎ (height ≡ cube_side) → coordinate p a ≡ height → coordinate q a ≡ height → InFace 2 (p ∷ q ∷ [])
in_face p q a height low high edge e f = record { a = a; low = low; high = high; height = height; edge = edge; flat = flat }
  where
    flat : (v : Point) → Memᴰ v (p ∷ q ∷ []) → coordinate v a ≡ height
    flat v (Memᴰ.head r) = rw r e
    flat v (Memᴰ.tail (Memᴰ.head r)) = rw r f
    flat v (Memᴰ.tail (Memᴰ.tail m)) = elim m [ ]

-- the diagonal is in none
abbrev diagonal : List Point
diagonal = (0 ∷ 0 ∷ []) ∷ (4096 ∷ 4096 ∷ []) ∷ []

diagonal_free : ¬ InFace 2 diagonal
diagonal_free w = go w.a w.low w.high (w.flat (0 ∷ 0 ∷ []) (Memᴰ.head refl)) (w.flat (4096 ∷ 4096 ∷ []) (Memᴰ.tail (Memᴰ.head refl)))
  where
    go : (a : ℕ) → 1 ≤ a → a ≤ 2 → coordinate (0 ∷ 0 ∷ []) a ≡ w.height → coordinate (4096 ∷ 4096 ∷ []) a ≡ w.height → ⊥
    go zero l h e f = omega arith
    go (suc zero) l h e f = omega arith
    go (suc (suc zero)) l h e f = omega arith
    go (suc (suc (suc a))) l h e f = omega arith

diagonal_in : (p : Point) → HasAll diagonal ((0 ∷ 0 ∷ []) ∷ p ∷ (4096 ∷ 4096 ∷ []) ∷ [])
diagonal_in p v (Memᴰ.head e) = Memᴰ.head e
diagonal_in p v (Memᴰ.tail (Memᴰ.head e)) = Memᴰ.tail (Memᴰ.tail (Memᴰ.head e))
diagonal_in p v (Memᴰ.tail (Memᴰ.tail m)) = elim m [ ]

pub two_compatible : Compatible two_leaves_good.cells
unfolding two_leaves_good facet cell_of cell_below root_cell corners moved cube_side halvings
two_compatible = record { one = go }
  where
    go : (n : ℕ) → n < 2 → (i : ℕ) → i ≤ length (leaf_in two_leaves_good.cells n).root
        → ¬ InFace (length (leaf_in two_leaves_good.cells n).root) (facet i (vertices_of (leaf_in two_leaves_good.cells n))) → OneHasFacet two_leaves_good.cells n i
    go zero l zero m free = absurd (free (in_face (4096 ∷ 0 ∷ []) (4096 ∷ 4096 ∷ []) 1 4096 (omega arith) (omega arith) (inr refl) refl refl))
    go zero l (suc zero) m free = record { other = 1; is = record { small = omega arith; another = omega arith; has = diagonal_in (0 ∷ 4096 ∷ []) }; only = λ m h. omega (arith, h) }
    go zero l (suc (suc zero)) m free = absurd (free (in_face (0 ∷ 0 ∷ []) (4096 ∷ 0 ∷ []) 2 0 (omega arith) (omega arith) (inl refl) refl refl))
    go zero l (suc (suc (suc i))) m free = absurd (omega arith)
    go (suc zero) l zero m free = absurd (free (in_face (0 ∷ 4096 ∷ []) (4096 ∷ 4096 ∷ []) 2 4096 (omega arith) (omega arith) (inr refl) refl refl))
    go (suc zero) l (suc zero) m free = record { other = 0; is = record { small = omega arith; another = omega arith; has = diagonal_in (4096 ∷ 0 ∷ []) }; only = λ m h. omega (arith, h) }
    go (suc zero) l (suc (suc zero)) m free = absurd (free (in_face (0 ∷ 0 ∷ []) (0 ∷ 4096 ∷ []) 1 0 (omega arith) (omega arith) (inl refl) refl refl))
    go (suc zero) l (suc (suc (suc i))) m free = absurd (omega arith)
    go (suc (suc n)) l i m free = absurd (omega arith)

-- the ends of the diagonal are told from other points by the sum of their coordinates
abbrev sum_of : Point → ℕ
sum_of v = coordinate v 1 + coordinate v 2

unfoldable has_sum : ℕ → Cell → Bool
has_sum s [] = false
has_sum s (v ∷ vs) = eqb (sum_of v) s || has_sum s vs

has_sum_of : {v : Point} {vs : Cell} → Memᴰ v vs → has_sum (sum_of v) vs ≡ true
unfolding has_sum
has_sum_of {v} (Memᴰ.head {x = w} e) = rw (eq-eqb (sum_of w) (sum_of v) (ap sum_of (sym e))) refl
has_sum_of {v} (Memᴰ.tail {x = w} m) = rw (has_sum_of m) (or-true (eqb (sum_of w) (sum_of v)))

abbrev lacks_an_end : Cell → Bool
lacks_an_end vs = not (has_sum 0 vs && has_sum 8192 vs)

-- leaves are not compatible where the diagonal is facet 1 of one of them and each other lacks an end of it
diagonal_alone : (leaves : List TreeCell) (n : ℕ) → n < length leaves → length (leaf_in leaves n).root ≡ 2 → facet 1 (vertices_of (leaf_in leaves n)) ≡ diagonal
    → each (length leaves) (λ m. eqb m n || lacks_an_end (vertices_of (leaf_in leaves m))) ≡ true → ¬ Compatible leaves
diagonal_alone leaves n small axes is lack c = false≢true (rw (ne_eqb o.other n o.is.another, low, high) at (each_at (length leaves) (λ m. eqb m n || lacks_an_end (vertices_of (leaf_in leaves m))) lack o.other o.is.small))
  where
    o : OneHasFacet leaves n 1
    o = c.one n small 1 (omega arith) (rw (axes, is) diagonal_free)

    has : HasAll diagonal (vertices_of (leaf_in leaves o.other))
    has = rw is at o.is.has

    low : has_sum 0 (vertices_of (leaf_in leaves o.other)) ≡ true
    low = has_sum_of (has (0 ∷ 0 ∷ []) (Memᴰ.head refl))

    high : has_sum 8192 (vertices_of (leaf_in leaves o.other)) ≡ true
    high = has_sum_of (has (4096 ∷ 4096 ∷ []) (Memᴰ.tail (Memᴰ.head refl)))

pub seam_incompatible : ¬ Compatible seam_leaves
unfolding facet cell_of cell_below root_cell corners moved child midpoint split_place level cube_side halvings has_sum each
seam_incompatible = diagonal_alone seam_leaves 2 (omega arith) refl refl refl
