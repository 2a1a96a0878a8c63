-- Request No. 1: the components of a slope, one for each of the four axes, and what the answer of a slope query is to a C program.
use Rattle.std.specs.Prelude.{◌≡◌, List, ℕ, ℤ, Result, Ok, Err}
use Rattle.std.proofs.Common.{sym}
use Rattle.bisection.specs.declared.Refused.{Refused}
use Rattle.bisection.specs.Refusals.{done}
use Rattle.bisection.specs.Numbers.{number_of}
use Rattle.bisection.specs.NumberLaws.{refuses, one_refusal}
use Rattle.bisection.specs.Slopes.{on_axis}
use Rattle.greys.specs.Fractions.{Quotient, plus_zero}
use Rattle.slopes.specs.declared.Slopes.{Slopes}
use Rattle.slopes.specs.declared.SlopeAnswer.{SlopeAnswer}

-- each is its axis's number over s exactly; on an axis past the last number that is +0.0
pub record Components (s : ℕ) (ns : List ℤ) (x : Slopes) : Type 0 where
  pub first : Quotient x.first (on_axis ns 1) s
  pub second : Quotient x.second (on_axis ns 2) s
  pub third : Quotient x.third (on_axis ns 3) s
  pub fourth : Quotient x.fourth (on_axis ns 4) s

-- +0.0 on each axis
abbrev pub no_slopes : Slopes
no_slopes = record { first = plus_zero; second = plus_zero; third = plus_zero; fourth = plus_zero }

-- the number, the offset and the slopes of each case; a refusal's slopes are +0.0
abbrev pub flat_of : Result Slopes Refused → SlopeAnswer
flat_of (Ok x) = record { refusal = done; offset = 0; slopes = x }
flat_of (Err r) = record { refusal = number_of r.refusal; offset = r.offset; slopes = no_slopes }

-- nothing is lost: answers of one form are equal
pub flat_one : (v u : Result Slopes Refused) → flat_of v ≡ flat_of u → v ≡ u
flat_one (Ok x) (Ok y) e = λ i. Ok (e i).slopes
flat_one (Ok x) (Err s) e = absurd (refuses s.refusal (λ i. (sym e i).refusal))
flat_one (Err r) (Ok y) e = absurd (refuses r.refusal (λ i. (e i).refusal))
flat_one (Err r) (Err s) e = λ i. Err (record { refusal = one_refusal r.refusal s.refusal (λ j. (e j).refusal) i; offset = (e i).offset })
