-- Tests in their order: which refusal comes first, and what a list of tests tells that all hold. An entry's ways out and what it
-- knows where it is done are read off its list by these two laws.
use Rattle.std.specs.Prelude.{◌≡◌, refl, true, false, List, [], ◌∷◌, ◌≢◌, ℕ, zero, suc, T}
use Rattle.std.proofs.Common.{sym, ◌∙◌, arith}
use Rattle.bisection.specs.Refusals.{done, Test, need, own, first_refusal}
use Rattle.bisection.specs.Theorems.Ladders.{First, Held, all_hold, fails, holds, numbered, past, stops, test_at}

pub first_is : {tests : List Test} {number : ℕ} → First tests number → first_refusal tests ≡ number
unfolding first_refusal
first_is all_hold = refl
first_is (holds e f) = rw e (first_is f)
first_is (fails e) = rw e refl
first_is (past e f) = rw e (first_is f)
first_is (stops {x} {later = later} e n) = go x (λ q. n (sym e ∙ q)) ∙ e
  where
    go : (x : ℕ) → x ≢ done → first_refusal (own x ∷ later) ≡ x
    go zero h = absurd (h refl)
    go (suc x) h = refl

-- where all that stands before it holds, the last part's own refusal is the whole one
pub own_last : (x : ℕ) → First (own x ∷ []) x
own_last zero = past refl all_hold
own_last (suc x) = stops {x = suc x} {number = suc x} refl (omega arith)

-- where no refusal comes, every test holds
pub held_at : (tests : List Test) → T (numbered tests) → first_refusal tests ≡ done → (i : ℕ) → Held (test_at tests i)
unfolding first_refusal
held_at [] n e i = refl
held_at (need true m ∷ tests) n e zero = refl
held_at (need true zero ∷ tests) n e (suc i) = absurd n
held_at (need true (suc m) ∷ tests) n e (suc i) = held_at tests n e i
held_at (need false zero ∷ tests) n e i = absurd n
held_at (need false (suc m) ∷ tests) n e i = absurd (omega arith)
held_at (own zero ∷ tests) n e zero = refl
held_at (own zero ∷ tests) n e (suc i) = held_at tests n e i
held_at (own (suc x) ∷ tests) n e i = absurd (omega arith)
