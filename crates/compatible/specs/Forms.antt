-- The answer of the compatibility test in the form that a C program has of it: the refusal's number and where the refused record begins,
-- or 1 for yes and 0 for no.
use Rattle.std.specs.Prelude.{◌≡◌, Bool, true, false, Result, Ok, Err}
use Rattle.std.proofs.Common.{refl, sym, ap}
use mir.Val.{bool_byte}
use native.Mathlib.Omega.{arith}
use Rattle.bisection.specs.declared.Refused.{Refused}
use Rattle.bisection.specs.Refusals.{done}
use Rattle.bisection.specs.Numbers.{number_of}
use Rattle.bisection.specs.NumberLaws.{refuses, one_refusal}
use Rattle.compatible.specs.declared.CompatibleAnswer.{CompatibleAnswer}
use Rattle.compatible.specs.Compatible.{yes_or_no}

abbrev pub compatible_answer : Result Bool Refused → CompatibleAnswer
compatible_answer (Ok b) = yes_or_no done 0 (bool_byte b)
compatible_answer (Err r) = yes_or_no (number_of r.refusal) r.offset 0

-- two answers with the same form are equal
pub one_compatible_answer : (a c : Result Bool Refused) → compatible_answer a ≡ compatible_answer c → a ≡ c
one_compatible_answer (Ok true) (Ok true) e = refl
one_compatible_answer (Ok true) (Ok false) e = absurd (omega (arith, ap (λ (a : CompatibleAnswer). a.compatible) e))
one_compatible_answer (Ok false) (Ok true) e = absurd (omega (arith, ap (λ (a : CompatibleAnswer). a.compatible) e))
one_compatible_answer (Ok false) (Ok false) e = refl
one_compatible_answer (Ok b) (Err r) e = absurd (refuses r.refusal (sym (ap (λ (a : CompatibleAnswer). a.refusal) e)))
one_compatible_answer (Err r) (Ok b) e = absurd (refuses r.refusal (ap (λ (a : CompatibleAnswer). a.refusal) e))
one_compatible_answer (Err r) (Err s) e = λ i. Err (record {
  refusal = one_refusal r.refusal s.refusal (ap (λ (a : CompatibleAnswer). a.refusal) e) i;
  offset = ap (λ (a : CompatibleAnswer). a.offset) e i;
})
