-- What a row of the table does to the entries: each goes where the row puts its place, negated or not, and so a
-- signed permutation stays one.
use Rattle.std.specs.Prelude.{◌≡◌, Bool, cond, get_or}
use mathlib.Core.List.{List}
use Prim.Native.Nat.{ℕ, suc}
use Rattle.bisection.specs.Codes.{negated}
use Rattle.bisection.specs.Theorems.Table.{Move, entries_by}
use Rattle.bisection.specs.Theorems.Crossing.Moves.{place, negates}

-- the entry at q, from 0, goes to `to`
pub record EntryGoes (d k : ℕ) (m : Move) (es : List ℕ) (q : ℕ) : Type 0 where
  pub to : ℕ
  pub turn : Bool
  pub place_is : place d k m (suc q) ≡ suc to
  pub turn_is : negates d k m (suc q) ≡ turn
  pub entry_is : get_or (entries_by d k m es) to 0 ≡ cond turn (negated (get_or es q 0)) (get_or es q 0)
