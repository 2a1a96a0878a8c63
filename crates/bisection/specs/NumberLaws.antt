-- The refusals' numbers: none is 0, and no two refusals have the same.
use Rattle.std.specs.Prelude.{◌≡◌, refl, [], ◌∷◌, ◌≢◌, ℕ, get_or}
use Rattle.std.proofs.Common.{sym, ap, ◌∙◌, arith}
use Rattle.bisection.specs.declared.Refusal.{Refusal}
use Rattle.bisection.specs.declared.Refusal.TheVariants.{Dimension, Depth, Length, Permutation, Orthant, Sign, Step, Face, Root, Deepest, Short, Point, Record, Leaf, Large}
use Rattle.bisection.specs.Refusals.{done}
use Rattle.bisection.specs.Numbers.{number_of}

pub refuses : (x : Refusal) → number_of x ≢ done
refuses Dimension = omega arith
refuses Depth = omega arith
refuses Length = omega arith
refuses Permutation = omega arith
refuses Orthant = omega arith
refuses Sign = omega arith
refuses Step = omega arith
refuses Face = omega arith
refuses Root = omega arith
refuses Deepest = omega arith
refuses Short = omega arith
refuses Point = omega arith
refuses Record = omega arith
refuses Leaf = omega arith
refuses Large = omega arith

-- the refusal of a number
numbered : ℕ → Refusal
numbered n = get_or (Large ∷ Dimension ∷ Depth ∷ Length ∷ Permutation ∷ Orthant ∷ Sign ∷ Step ∷ Face ∷ Root ∷ Deepest ∷ Short ∷ Point ∷ Record ∷ Leaf ∷ []) n Large

named : (x : Refusal) → numbered (number_of x) ≡ x
unfolding numbered
named Dimension = refl
named Depth = refl
named Length = refl
named Permutation = refl
named Orthant = refl
named Sign = refl
named Step = refl
named Face = refl
named Root = refl
named Deepest = refl
named Short = refl
named Point = refl
named Record = refl
named Leaf = refl
named Large = refl

pub one_refusal : (x y : Refusal) → number_of x ≡ number_of y → x ≡ y
one_refusal x y e = sym (named x) ∙ ap numbered e ∙ named y
