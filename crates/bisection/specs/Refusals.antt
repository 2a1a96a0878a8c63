-- Document 01, "Refusal numbers": the numbers by name, and the order of refusals for a code.
use Rattle.std.specs.Prelude.{Bool, true, false, not, ◌&&◌, List, [], ◌∷◌, ℕ, zero, suc, ◌-◌, ◌^◌, eqb, leb, ltb, length, get_or}
use Rattle.dimension.specs.Sizes.{is_dimension, greatest_depth, code_length, split_place}
use Rattle.bisection.specs.Codes.{axis, minus, high, dimension_of, depth_of, entries_of, orthants_of}

abbrev pub done : ℕ
done = 0

abbrev pub refused_dimension : ℕ
refused_dimension = 1

abbrev pub refused_depth : ℕ
refused_depth = 2

abbrev pub refused_length : ℕ
refused_length = 3

abbrev pub refused_permutation : ℕ
refused_permutation = 4

abbrev pub refused_orthant : ℕ
refused_orthant = 5

abbrev pub refused_sign : ℕ
refused_sign = 6

abbrev pub refused_step : ℕ
refused_step = 7

abbrev pub refused_face : ℕ
refused_face = 8

abbrev pub refused_root : ℕ
refused_root = 9

abbrev pub refused_deepest : ℕ
refused_deepest = 10

abbrev pub refused_short : ℕ
refused_short = 11

abbrev pub refused_point : ℕ
refused_point = 12

abbrev pub refused_record : ℕ
refused_record = 13

abbrev pub refused_leaf : ℕ
refused_leaf = 14

abbrev pub refused_large : ℕ
refused_large = 15

-- a test with the number that is given where it fails; or the refusal that a part has of its own
pub data Test : Type 0 where
  need : Bool → ℕ → Test
  own : ℕ → Test

-- the first refusal of a list of tests, in its order
unfoldable pub first_refusal : List Test → ℕ
first_refusal [] = done
first_refusal (need true number ∷ later) = first_refusal later
first_refusal (need false number ∷ later) = number
first_refusal (own zero ∷ later) = first_refusal later
first_refusal (own (suc number) ∷ later) = suc number

-- a test of every number below n
unfoldable pub each : ℕ → (ℕ → Bool) → Bool
each zero test = true
each (suc n) test = test n && each n test

-- no entry before place i has the axis a
unfoldable pub fresh : List ℕ → ℕ → ℕ → Bool
fresh es a i = each i (λ j. not (eqb (axis (get_or es j 0)) a))

-- every entry has an axis 1..d, and none is repeated
unfoldable pub permutes : ℕ → List ℕ → Bool
permutes d es = each d (λ i. leb 1 (axis (get_or es i 0)) && leb (axis (get_or es i 0)) d && fresh es (axis (get_or es i 0)) i)

-- a root's bytes: axes 1..d, none repeated, and none with a sign
unfoldable pub is_root : List ℕ → Bool
is_root root = permutes (length root) root && each (length root) (λ i. not (minus (get_or root i 0)))

-- a path's bytes: 0 or 1
unfoldable pub is_path : List ℕ → Bool
is_path path = each (length path) (λ i. leb (get_or path i 0) 1)

-- no orthant byte has a bit at d or above
unfoldable pub orthants_fit : ℕ → List ℕ → Bool
orthants_fit d os = each (length os) (λ i. ltb (get_or os i 0) (2 ^ d))

-- the box's own sign on axis a: plus when L = 0, otherwise minus where the last orthant is high
unfoldable pub own_minus : List ℕ → ℕ → Bool
own_minus os a = high (get_or os (length os - 1) 0) a

abbrev pub same_sign : Bool → Bool → Bool
same_sign true n = n
same_sign false n = not n

-- the first k entries carry the box's own sign
unfoldable pub signs_own : ℕ → List ℕ → List ℕ → Bool
signs_own k es os = each k (λ i. same_sign (minus (get_or es i 0)) (own_minus os (axis (get_or es i 0))))

-- the refusals 1 and 2, of the head at the front of bytes, and the length that the head gives a code
unfoldable pub head_refusal : List ℕ → ℕ
head_refusal bs = first_refusal (
    need (is_dimension (dimension_of bs)) refused_dimension
    ∷ need (leb (depth_of bs) (greatest_depth (dimension_of bs))) refused_depth
    ∷ [])

unfoldable pub length_of : List ℕ → ℕ
length_of bs = code_length (dimension_of bs) (depth_of bs)

-- the refusals 4, 5 and 6, of a code's entries and orthants
unfoldable pub body_refusal : List ℕ → ℕ
body_refusal code = first_refusal (
    need (permutes (dimension_of code) (entries_of code)) refused_permutation
    ∷ need (orthants_fit (dimension_of code) (orthants_of code)) refused_orthant
    ∷ need (signs_own (split_place (dimension_of code) (depth_of code)) (entries_of code) (orthants_of code)) refused_sign
    ∷ [])

-- order for a code: 3 (under 2 bytes), 1, 2, 3, 4, 5, 6
unfoldable pub code_refusal : List ℕ → ℕ
code_refusal code = first_refusal (
    need (leb 2 (length code)) refused_length
    ∷ own (head_refusal code)
    ∷ need (eqb (length code) (length_of code)) refused_length
    ∷ own (body_refusal code)
    ∷ [])
