-- Tests in their order: which refusal comes first, and what a list of tests tells that all hold. An entry's ways out and what it
-- knows where it is done are read off its list by these two laws.
use Rattle.std.specs.Prelude.{◌≡◌, Bool, true, false, List, [], ◌∷◌, ◌≢◌, ℕ, zero, suc}
use Rattle.bisection.specs.Refusals.{done, Test, need, own}

-- the way down a list of tests to the one that gives the number
pub data First : List Test → ℕ → Type 0 where
  all_hold : First [] done
  holds : {t : Bool} {n number : ℕ} {later : List Test} → t ≡ true → First later number → First (need t n ∷ later) number
  fails : {t : Bool} {number : ℕ} {later : List Test} → t ≡ false → First (need t number ∷ later) number
  past : {x number : ℕ} {later : List Test} → x ≡ done → First later number → First (own x ∷ later) number
  stops : {x number : ℕ} {later : List Test} → x ≡ number → number ≢ done → First (own x ∷ later) number

-- what it means that a test holds, and the test at a place
abbrev pub Held : Test → Type 0
Held (need t n) = t ≡ true
Held (own x) = x ≡ done

abbrev pub test_at : List Test → ℕ → Test
test_at [] i = own done
test_at (t ∷ tests) zero = t
test_at (t ∷ tests) (suc i) = test_at tests i

-- no test of the list refuses with 0
abbrev pub numbered : List Test → Bool
numbered [] = true
numbered (need t zero ∷ tests) = false
numbered (need t (suc n) ∷ tests) = numbered tests
numbered (own x ∷ tests) = numbered tests
