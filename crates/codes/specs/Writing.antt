-- What an entry writes: refused and done.
use Rattle.std.specs.Prelude.{◌≡◌, refl, List, [], ◌++◌, ◌≢◌, ℕ, Ok, Err, length, drop}
use Rattle.std.proofs.Common.{sym, ap, ◌∙◌}
use Rattle.bisection.specs.declared.Refusal.{Refusal}
use Rattle.bisection.specs.Refusals.{done}
use Rattle.bisection.specs.Numbers.{number_of}
use Rattle.bisection.specs.NumberLaws.{refuses}
use Rattle.codes.specs.declared.Written.{Written}
use Rattle.codes.specs.Forms.{written}
use Rattle.codes.specs.Outcomes.{Writes, Answers}

-- any number that refuses: an answer says it, and nothing is written
module _ {refusal number : ℕ} {before : List ℕ} {r : Written} (e : refusal ≡ number) (n : number ≢ done) (f : (r.refusal ≡ number) × (r.length ≡ 0)) where
  pub number_writes : {answer : List ℕ} → Writes refusal answer before r before
  number_writes = record { number = f.0 ∙ sym e; refused = λ q. (f.1, refl); written = λ q. absurd (n (sym e ∙ q)) }

  pub number_answers : {Is : List ℕ → Type 0} → Answers refusal Is before r before
  number_answers = record { answer = []; writes = number_writes; is = λ q. absurd (n (sym e ∙ q)) }

-- a refusal: its number, and nothing written
module _ {refusal : ℕ} {before : List ℕ} (x : Refusal) (e : refusal ≡ number_of x) where
  pub refused_writes : {answer : List ℕ} → Writes refusal answer before (written (Err x)) before
  refused_writes = number_writes e (refuses x) (refl, refl)

  pub refused_answers : {Is : List ℕ → Type 0} → Answers refusal Is before (written (Err x)) before
  refused_answers = number_answers e (refuses x) (refl, refl)

-- an answer that is written
module _ (answer : List ℕ) {refusal n : ℕ} {before after : List ℕ} (e : refusal ≡ done) (f : n ≡ length answer) (g : after ≡ answer ++ drop n before) where
  pub done_writes : Writes refusal answer before (written (Ok n)) after
  done_writes = record { number = sym e; refused = λ q. absurd (q e); written = λ q. (f, g ∙ ap (λ (m : ℕ). answer ++ drop m before) f) }

  pub done_answers : {Is : List ℕ → Type 0} → Is answer → Answers refusal Is before (written (Ok n)) after
  done_answers is = record { answer = answer; writes = done_writes; is = λ q. is }
