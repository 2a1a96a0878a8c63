-- The answer of the leaf query in the form that a C program has of it.
use Rattle.std.specs.Prelude.{◌≡◌, Result, Ok, Err}
use Rattle.std.proofs.Common.{sym}
use Rattle.bisection.specs.declared.Refused.{Refused}
use Rattle.bisection.specs.Refusals.{done}
use Rattle.bisection.specs.Numbers.{number_of}
use Rattle.bisection.specs.NumberLaws.{refuses, one_refusal}
use Rattle.queries.specs.declared.Leaf.{Leaf}
use Rattle.queries.specs.declared.LeafAnswer.{LeafAnswer}
use Rattle.queries.specs.Queries.{leaf_told}

-- the number and the offset of a refusal, or the leaf's number and the length of its weights
abbrev pub leaf_answer : Result Leaf Refused → LeafAnswer
leaf_answer (Ok leaf) = leaf_told done 0 leaf.number leaf.length
leaf_answer (Err r) = leaf_told (number_of r.refusal) r.offset 0 0

-- nothing is lost: answers of one form are equal
pub answer_one : (r s : Result Leaf Refused) → leaf_answer r ≡ leaf_answer s → r ≡ s
answer_one (Ok x) (Ok y) e = λ i. Ok (record { number = (e i).number; length = (e i).length })
answer_one (Ok x) (Err s) e = absurd (refuses s.refusal (λ i. (sym e i).refusal))
answer_one (Err r) (Ok y) e = absurd (refuses r.refusal (λ i. (e i).refusal))
answer_one (Err r) (Err s) e = λ i. Err (record { refusal = one_refusal r.refusal s.refusal (λ j. (e j).refusal) i; offset = (e i).offset })
