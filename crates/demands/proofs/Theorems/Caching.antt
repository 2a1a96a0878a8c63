-- Crossing and splitting agree, over the contracts: from demand 3 of either crossing, demand 2 of child, and the agreement of cells.
use Rattle.std.specs.Prelude.{◌≡◌, refl, List, ◌⊎◌, ◌≢◌, ℕ, suc, ◌≤◌, ◌<◌, length, take}
use Rattle.std.proofs.Math.Path.{sym}
use Rattle.std.proofs.Common.{ap, ◌∙◌, subst, inl, inr, arith}
use Rattle.std.proofs.Math.Decide.{ℕ_discrete}
use borrow.Author.Tests.{le-leb, leb-true, lt-ltb, ltb-true}
use Rattle.dimension.specs.Sizes.{greatest_depth, split_place, code_length}
use Rattle.bisection.specs.Cells.{Cell, child}
use Rattle.bisection.specs.Codes.{dimension_of, depth_of}
use Rattle.bisection.specs.Refusals.{done, refused_face}
use Rattle.bisection.specs.Facets.{facet, IsCell, Across}
use Rattle.bisection.specs.Weights.{LiesInside}
use Rattle.bisection.specs.Theorems.Ladders.{holds, past, all_hold}
use Rattle.bisection.proofs.Theorems.Ladders.{first_is, held_at}
use Rattle.bisection.proofs.Theorems.CodeCells.{one_cell, same_code, cell_passes}
use Rattle.bisection.specs.Theorems.Crossing.Shared.{Ends}
use Rattle.bisection.proofs.Theorems.Neighbour.{across_ends, across_determined}
use Rattle.bisection.specs.Theorems.Splitting.Agreement.{number_across, ChildAcross}
use Rattle.bisection.proofs.Theorems.Splitting.Agreement.{code_of_child, child_dimension, child_depth, child_is_cell, number_kept, number_changed, number_small}
use Rattle.bisection.specs.Theorems.Splitting.Changes.{TwoChildren}
use Rattle.bisection.proofs.Theorems.Splitting.Changes.{place_changes}
use Rattle.codes.specs.declared.Written.{Written}
use Rattle.codes.specs.Outcomes.{child_refusal, Child}
use Rattle.crossing.specs.declared.Crossed.{Crossed}
use Rattle.demands.specs.Three.{Call}
use Rattle.demands.specs.Agree.{Split}
use Rattle.demands.specs.Caching.{ChildGives, Siblings, Meet, Caching}
use Rattle.demands.specs.Theorems.Two.{half}
use Rattle.demands.specs.Theorems.Three.{crossing, cell_length}
use Rattle.demands.specs.Theorems.Agree.{split_across, agrees}

-- a child of a cell whose depth is less than the greatest, with room for it: the call is done and gives the code of that child's cell
module _ {code child_code : List ℕ} {vs : Cell} {n : ℕ} (c : IsCell code vs) (deep : depth_of code < greatest_depth (dimension_of code)) (small : n ≤ 1)
    (u : IsCell child_code (child n (split_place (dimension_of code) (depth_of code)) vs)) (dims : dimension_of child_code ≡ dimension_of code) (depth : depth_of child_code ≡ suc (depth_of code)) where
  room : {m : ℕ} → length child_code ≤ m → code_length (dimension_of code) (suc (depth_of code)) ≤ m
  room l = rw (← dims, ← depth, ← cell_length u) l

  passes : (m : ℕ) → length child_code ≤ m → child_refusal code n m ≡ done
  unfolding child_refusal
  passes m l = first_is (past (cell_passes c) (holds (le-leb n 1 small) (holds (lt-ltb (depth_of code) (greatest_depth (dimension_of code)) deep)
      (holds (le-leb (code_length (dimension_of code) (suc (depth_of code))) m (room l)) all_hold))))

  child_gives : ChildGives code n child_code
  child_gives = record { gives = λ before r after a l. let e = a.writes.number ∙ passes (length before) l in (e, same_code (half code n before r after a e vs c) u refl) }

-- the new vertex at another place: at the other end of the split edge
ends_apart : (k i i' : ℕ) → Ends k i i' → i' ≢ i → ((i ≡ 0) × (i' ≡ k)) ⊎ ((i ≡ k) × (i' ≡ 0))
ends_apart k i i' h n = go (ℕ_discrete i 0) (ℕ_discrete i k)
  where
    from_first : i ≡ 0 → (i' ≡ 0) ⊎ (i' ≡ k) → ((i ≡ 0) × (i' ≡ k)) ⊎ ((i ≡ k) × (i' ≡ 0))
    from_first e (inl q) = absurd (n (q ∙ sym e))
    from_first e (inr q) = inl (e, q)

    from_last : i ≡ k → (i' ≡ 0) ⊎ (i' ≡ k) → ((i ≡ 0) × (i' ≡ k)) ⊎ ((i ≡ k) × (i' ≡ 0))
    from_last e (inl q) = inr (e, q)
    from_last e (inr q) = absurd (n (q ∙ sym e))

    go : Dec (i ≡ 0) → Dec (i ≡ k) → ((i ≡ 0) × (i' ≡ k)) ⊎ ((i ≡ k) × (i' ≡ 0))
    go (yes e) q = from_first e (h.there (inl e))
    go (no e) (yes q) = from_last q (h.there (inr q))
    go (no e) (no q) = absurd (n (h.inner e q))

module _ {code : List ℕ} {vs : Cell} {i : ℕ} {before : List ℕ} {r : Crossed} {after : List ℕ} (c : Call code vs i before r after)
    {b : ℕ} {lent : List ℕ} {w : Written} {written : List ℕ} (a : Child code b lent w written) (e : w.refusal ≡ done)
    {us : Cell} {j : ℕ} {before' : List ℕ} {s : Crossed} {after' : List ℕ} (c' : Call (take w.length written) us j before' s after')
    (inside : LiesInside (facet j us) (facet i vs)) where
  abbrev child_code : List ℕ
  child_code = take w.length written

  abbrev k : ℕ
  k = split_place (dimension_of code) (depth_of code)

  child_is : IsCell child_code (child b k vs)
  child_is = half code b lent w written a e vs c.cell

  split : Split code vs b child_code us
  unfolding child_refusal
  split = record {
    cell = c.cell;
    below = ltb-true (depth_of code) (greatest_depth (dimension_of code)) (held_at _ tt z 2);
    number = leb-true b 1 (held_at _ tt z 1);
    half = one_cell c'.cell child_is;
    named = c'.cell;
  }
    where
      z : child_refusal code b (length lent) ≡ done
      z = sym a.writes.number ∙ e

  same_child : code_of_child c.cell b ≡ child_code
  same_child = same_code (child_is_cell c.cell b split.number split.below) child_is refl

  dims : dimension_of child_code ≡ dimension_of code
  dims = sym (ap dimension_of same_child) ∙ child_dimension c.cell b

  depth : depth_of child_code ≡ suc (depth_of code)
  depth = sym (ap depth_of same_child) ∙ child_depth c.cell b

  jl : j ≤ dimension_of code
  jl = rw (← dims) c'.place

  refused : r.refusal ≡ refused_face → s.refusal ≡ refused_face
  refused q = (crossing c').refused (λ h. (crossing c').no_face h (rw dims ((agrees split c.place jl inside).face ((crossing c).face q))))

  -- where the cell's crossing is done
  module _ (q : r.refusal ≡ done) where
    x : Across code i (take r.length after) r.place
    x = (crossing c).across q

    there : ChildAcross child_code j k x.shares.ws (number_across i r.place b)
    there = split_across split c.place jl inside x.shares.cell' x

    crossed : s.refusal ≡ done
    crossed = go (ℕ_discrete s.refusal done)
      where
        go : Dec (s.refusal ≡ done) → s.refusal ≡ done
        go (yes h) = h
        go (no h) = absurd ((crossing c').alone ((crossing c').refused h) there.child_code' there.across.shares)

    answer : (take s.length after' ≡ there.child_code') × (s.place ≡ j)
    answer = across_determined c'.place ((crossing c').across crossed) there.across

    gives : ChildGives (take r.length after) (number_across i r.place b) (take s.length after')
    gives = rw answer.0 (child_gives x.shares.cell' (rw (← x.shares.dimension, ← x.shares.depth) split.below)
        (number_small i r.place b split.number) (rw (← x.shares.dimension, ← x.shares.depth) there.cell)
        (sym there.across.shares.dimension ∙ dims ∙ x.shares.dimension) (sym there.across.shares.depth ∙ depth ∙ ap suc x.shares.depth))

  between : (q : r.refusal ≡ done) → r.place ≢ i → Siblings code (take r.length after)
  between q n = record {
    parent = t.parent;
    ps = t.ps;
    number = t.number;
    vs = _;
    one = record { cell = t.cell; below = t.below; number = t.small; half = refl; named = t.one_child };
    vs' = _;
    other = record { cell = t.cell; below = t.below; number = omega arith; half = refl; named = t.other_child };
  }
    where
      t : TwoChildren code (take r.length after)
      t = place_changes c.place (x q) n

  pub meet : Meet code (split_place (dimension_of code) (depth_of code)) i b j r after s after'
  meet = record {
    refused = refused;
    crossed = crossed;
    kept = λ q h. subst (λ (n : ℕ). ChildGives (take r.length after) n (take s.length after')) (number_kept i r.place b h) (gives q);
    changed = λ q h. subst (λ (n : ℕ). ChildGives (take r.length after) n (take s.length after')) (number_changed i r.place b h) (gives q);
    siblings = between;
    ends = λ q. ends_apart k i r.place (across_ends c.cell (x q).shares.cell' c.place (x q));
    place = λ q. (answer q).1;
  }

pub caching : Caching
unfolding Caching
caching code vs i before r after c b lent w written a e us j before' s after' c' inside = meet c a e c' inside
