-- Document 01, "Sheets" and "Refusal numbers": what the answer of a value query is to a C program.
use Rattle.std.specs.Prelude.{◌≡◌, Result, Ok, Err, Float}
use Rattle.std.proofs.Common.{sym}
use Rattle.bisection.specs.declared.Refused.{Refused}
use Rattle.bisection.specs.Refusals.{done}
use Rattle.bisection.specs.Numbers.{number_of}
use Rattle.bisection.specs.NumberLaws.{refuses, one_refusal}
use Rattle.greys.specs.Fractions.{plus_zero}
use Rattle.greys.specs.declared.ValueAnswer.{ValueAnswer}

-- the number, the offset and the value of each case; a refusal's value is +0.0
abbrev pub flat_of : Result Float Refused → ValueAnswer
flat_of (Ok x) = record { refusal = done; offset = 0; value = x }
flat_of (Err r) = record { refusal = number_of r.refusal; offset = r.offset; value = plus_zero }

-- nothing is lost: answers of one form are equal
pub flat_one : (v u : Result Float Refused) → flat_of v ≡ flat_of u → v ≡ u
flat_one (Ok x) (Ok y) e = λ i. Ok (e i).value
flat_one (Ok x) (Err s) e = absurd (refuses s.refusal (λ i. (sym e i).refusal))
flat_one (Err r) (Ok y) e = absurd (refuses r.refusal (λ i. (e i).refusal))
flat_one (Err r) (Err s) e = λ i. Err (record { refusal = one_refusal r.refusal s.refusal (λ j. (e j).refusal) i; offset = (e i).offset })
