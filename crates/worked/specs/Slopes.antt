-- The slopes of an answer are no NaNs, and so can be written by their bits.
use Rattle.std.specs.Prelude.{◌≡◌, not, List, ℕ, T, ℤ, Float, Ok}
use Rattle.std.proofs.Common.{subst}
use Rattle.std.specs.Float.{nan, inf, fin}
use Rattle.std.specs.Float.Ieee.{is_nan}
use Rattle.greys.specs.Fractions.{Quotient}
use Rattle.sheets.specs.Sheets.{sheet_refused, sheet_good}
use Rattle.slopes.specs.Slopes.{Components}
use Rattle.slopes.specs.declared.Slopes.{Slopes}
use Rattle.queries.specs.SlopeQueries.{slope_refused, slope_found, SlopeIs}

-- no component is a NaN
pub record NoNan (x : Slopes) : Type 0 where
  pub first : T (not (is_nan x.first))
  pub second : T (not (is_nan x.second))
  pub third : T (not (is_nan x.third))
  pub fourth : T (not (is_nan x.fourth))

-- a quotient is finite
no_nan : (x : Float) {n : ℤ} {s : ℕ} → Quotient x n s → T (not (is_nan x))
unfolding is_nan
no_nan nan q = absurd q.value
no_nan (inf t) q = absurd q.value
no_nan (fin t m e) q = tt

components_no_nan : {s : ℕ} {ns : List ℤ} {x : Slopes} → Components s ns x → NoNan x
components_no_nan {x = x} c = record {
  first = no_nan x.first c.first;
  second = no_nan x.second c.second;
  third = no_nan x.third c.third;
  fourth = no_nan x.fourth c.fourth;
}

-- the slopes that the query answers
pub slope_no_nan : {sheet point : List ℕ} {x : Slopes} → SlopeIs sheet point (Ok x) → NoNan x
slope_no_nan (sheet_refused is refused r) = absurd r
slope_no_nan (sheet_good g (slope_refused outside r)) = absurd r
slope_no_nan {x = x} (sheet_good g (slope_found {x = y} inside at linear c is)) = let same : y ≡ x = cc in subst NoNan same (components_no_nan c)
