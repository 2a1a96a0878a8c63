-- Crossing and splitting agree, from the bisection's theorem.
use Rattle.std.specs.Prelude.{refl, List, ℕ, ◌≤◌}
use Rattle.dimension.specs.Sizes.{split_place}
use Rattle.bisection.specs.Cells.{Cell, child}
use Rattle.bisection.specs.Codes.{dimension_of, depth_of}
use Rattle.bisection.specs.Facets.{facet, IsCell, Across}
use Rattle.bisection.specs.Weights.{LiesInside}
use Rattle.bisection.proofs.Theorems.Neighbour.{across_free}
use Rattle.bisection.specs.Theorems.Splitting.Agreement.{number_across, ChildAcross}
use Rattle.bisection.proofs.Theorems.Splitting.Agreement.{number_small, agree_face, agree_alone, agree_across}
use Rattle.demands.specs.Agree.{Split, AcrossBoth, Agrees, Agree}

module _ {code : List ℕ} {vs : Cell} {b : ℕ} {child_code : List ℕ} {us : Cell} (s : Split code vs b child_code us) {i j : ℕ} (il : i ≤ dimension_of code) (jl : j ≤ dimension_of code)
    (inside : LiesInside (facet j us) (facet i vs)) where
  abbrev k : ℕ
  k = split_place (dimension_of code) (depth_of code)

  inside' : LiesInside (facet j (child b k vs)) (facet i vs)
  inside' = rw (← s.half) inside

  named : IsCell child_code (child b k vs)
  named = rw (← s.half) s.named

  -- the child across, by its number and place
  pub split_across : {code' : List ℕ} {ws : Cell} {i' : ℕ} → IsCell code' ws → Across code i code' i'
      → ChildAcross child_code j (split_place (dimension_of code) (depth_of code)) ws (number_across i i' b)
  split_across c' x = agree_across s.cell s.below b s.number il jl inside' c' x named

  both : {code' : List ℕ} {i' : ℕ} → Across code i code' i' → AcrossBoth code i child_code j
  both {code'} {i'} x = record {
    code' = code';
    ws = x.shares.ws;
    i' = i';
    across = x;
    b' = number_across i i' b;
    child_code' = a.child_code';
    us' = child (number_across i i' b) k x.shares.ws;
    split = record {
      cell = x.shares.cell';
      below = rw (← x.shares.dimension, ← x.shares.depth) s.below;
      number = number_small i i' b s.number;
      half = rw (← x.shares.dimension, ← x.shares.depth) refl;
      named = a.cell;
    };
    j' = j;
    across_child = a.across;
  }
    where
      a : ChildAcross child_code j k x.shares.ws (number_across i i' b)
      a = split_across x.shares.cell' x

  pub agrees : Agrees code vs i child_code us j
  agrees = record {
    face = λ w. rw s.half (agree_face s.cell s.below b s.number il jl inside' w);
    alone = agree_alone s.cell s.below b s.number il jl inside' named;
    both = λ n. both (across_free s.cell i il n);
  }

pub agree : Agree
unfolding Agree
agree code vs b child_code us s i j il jl inside = agrees s il jl inside
