-- A child's facets are so, from the bisection's theorems.
use Rattle.std.specs.Prelude.{◌≡◌, refl, List, ◌≢◌, ℕ, zero, suc, ◌-◌, ◌≤◌}
use Rattle.std.proofs.Common.{sym, subst, arith}
use Rattle.dimension.specs.Sizes.{split_place}
use Rattle.bisection.specs.Cells.{Cell, child}
use Rattle.bisection.specs.Codes.{dimension_of, depth_of}
use Rattle.bisection.specs.Facets.{Across}
use Rattle.bisection.proofs.Theorems.Crossing.Coded.{coded, range}
use Rattle.bisection.specs.Theorems.Splitting.Children.{kept_at}
use Rattle.bisection.proofs.Theorems.Splitting.Children.{kept_in}
use Rattle.bisection.specs.Theorems.Splitting.Siblings.{OneHolder}
use Rattle.bisection.proofs.Theorems.Splitting.Siblings.{shared_outside, one_holder, sibling_across}
use Rattle.demands.specs.Agree.{Split}
use Rattle.demands.specs.ChildFacets.{InsideOne, SharedAt, Facets, ChildFacets}

kept_shared : (b k : ℕ) → 1 ≤ k → b ≤ 1 → SharedAt b k (kept_at b k)
kept_shared zero k k1 l = record { in_0 = λ e. refl; in_1 = λ e. absurd (omega arith) }
kept_shared (suc b) k k1 l = record { in_0 = λ e. absurd (omega arith); in_1 = λ e. omega arith }

shared_kept : (b k j : ℕ) → 1 ≤ k → b ≤ 1 → SharedAt b k j → kept_at b k ≡ j
shared_kept zero k j k1 l s = sym (s.in_0 refl)
shared_kept (suc zero) k j k1 l s = omega (arith, s.in_1 refl)
shared_kept (suc (suc b)) k j k1 l s = absurd (omega arith)

module _ {code : List ℕ} {vs : Cell} {b : ℕ} {child_code : List ℕ} {us : Cell} (s : Split code vs b child_code us) where
  abbrev k : ℕ
  k = split_place (dimension_of code) (depth_of code)

  k1 : 1 ≤ k
  k1 = (range (coded s.cell)).0

  kd : k ≤ dimension_of code
  kd = (range (coded s.cell)).1

  inside_one : (j : ℕ) → j ≤ dimension_of code → j ≢ kept_at b k → InsideOne (dimension_of code) vs us j
  inside_one j l n = rw s.half (record { i = h.i; facet_of = h.within; inside = h.inside; only = h.only })
    where
      h : OneHolder (dimension_of code) vs (child b k vs) j
      h = one_holder s.cell s.below b s.number j l n

  -- the sibling, at whatever place is its shared one
  to_sibling : (child_code' : List ℕ) (us' : Cell) → Split code vs (1 - b) child_code' us' → (j : ℕ) → SharedAt (1 - b) k j → Across child_code (kept_at b k) child_code' j
  to_sibling child_code' us' t j a = subst (Across child_code (kept_at b k) child_code') (shared_kept (1 - b) k j k1 t.number a)
      (sibling_across s.cell s.below b s.number (rw (← s.half) s.named) (rw (← t.half) t.named))

  facets : Facets code vs b child_code us
  facets = record {
    shared = kept_at b k;
    at = kept_shared b k k1 s.number;
    facet_of = kept_in b k kd;
    outside = rw s.half (shared_outside s.cell s.below b s.number);
    sibling = to_sibling;
    others = inside_one;
  }

pub child_facets : ChildFacets
unfolding ChildFacets
child_facets code vs b child_code us s = facets s
