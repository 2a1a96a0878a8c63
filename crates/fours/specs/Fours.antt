-- Four entries by value, as a list; what they hold, and what the functions answer.
use Rattle.std.specs.Prelude.{◌≡◌, Bool, true, cond, List, [], ◌∷◌, ◌++◌, ℕ, ◌/◌, ◌%◌, ◌^◌, get_or, drop}
use Rattle.bisection.specs.Codes.{axis, minus, high, orthant}
use Rattle.bisection.specs.Refusals.{same_sign}
use Rattle.bisection.specs.Theorems.Entries.{Signed}
use Rattle.bisection.specs.Theorems.Passing.{unstepped}
use Rattle.fours.specs.declared.Four.{Four}

abbrev pub four : Four → List ℕ
four e = e.first ∷ e.second ∷ e.third ∷ e.fourth ∷ []

abbrev pub no_entries : List ℕ
no_entries = 0 ∷ 0 ∷ 0 ∷ 0 ∷ []

-- the signed permutation of d axes, and zeros behind it
pub record Holds (d : ℕ) (e : Four) (es : List ℕ) : Type 0 where
  pub signed : Signed d es
  pub is : four e ≡ es ++ drop d no_entries

pub record SameFour (a b : Four) (r : Bool) : Type 0 where
  pub equal : r ≡ true → four a ≡ four b
  pub told : four a ≡ four b → r ≡ true

-- the step that entry n tells, and the entries before it
pub record BackIs (n own : ℕ) (es : List ℕ) (b : ℕ) (r : List ℕ) : Type 0 where
  pub step : b ≡ cond (same_sign (minus (get_or es n 0)) (high own (axis (get_or es n 0)))) 0 1
  pub entries : r ≡ unstepped b n es

-- an entry's part in an orthant, for an axis 1 to 7
unfoldable pub part_of : ℕ → ℕ
part_of e = cond (minus e) (2 ^ (axis e % 8) / 2) 0

-- whatever signed permutation they hold
pub record OwnIs (e : Four) (r : ℕ) : Type 0 where
  pub own : (d : ℕ) (es : List ℕ) → Holds d e es → r ≡ orthant es
