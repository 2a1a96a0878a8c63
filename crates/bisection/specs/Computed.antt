-- The definitions computed. The worked cells P1 to P10 are rows of the table in the crate `demands`; here stand
-- the orthants that document 01 quotes for path 0101, and counts of all byte strings that pass: d! 2^D of them.
use Rattle.std.specs.Prelude.{◌≡◌, refl, cond, List, [], ◌∷◌, ◌++◌, map, ℕ, zero, suc, ◌+◌, ◌*◌, ◌^◌, eqb}
use Rattle.dimension.specs.Sizes.{is_dimension, halvings, greatest_depth, level, split_place, box_depth, code_length}
use Rattle.bisection.specs.Roots.{axes_from, picks, joined, arrangements, roots}
use Rattle.bisection.specs.Codes.{minus, axis, negated, turned, stepped, high, minus_on, orthant_to, orthant, step, name_below, name_of, dimension_of, depth_of, entries_of, orthants_of}
use Rattle.bisection.specs.Refusals.{first_refusal, each, fresh, permutes, orthants_fit, own_minus, signs_own, head_refusal, length_of, body_refusal, code_refusal}

-- "under the rule here they are (+1,-1), (-1,-1)"
pub quoted_orthants : (name_of (1 ∷ 2 ∷ []) (0 ∷ 1 ∷ 0 ∷ 1 ∷ [])).orthants ≡ 1 ∷ 0 ∷ []
unfolding name_of name_below step stepped turned negated minus axis orthant orthant_to minus_on level split_place
quoted_orthants = refl

-- all lists of n bytes from a list of bytes
unfoldable pub words : ℕ → List ℕ → List (List ℕ)
words zero bs = [] ∷ []
words (suc n) bs = joined (map (λ (b : ℕ). map (λ (w : List ℕ). b ∷ w) (words n bs)) bs)

unfoldable pub passing : ℕ → ℕ → List (List ℕ) → ℕ
passing d D [] = 0
passing d D (w ∷ ws) = cond (eqb (code_refusal (d ∷ D ∷ w)) 0) 1 0 + passing d D ws

-- entries with each sign, orthants with each bit, and a byte outside on either side
unfoldable pub candidates : ℕ → ℕ → List (List ℕ)
candidates d L = joined (map (λ (es : List ℕ). map (λ (os : List ℕ). es ++ os) (words L (axes_from 0 (suc (2 ^ d))))) (words d (axes_from 0 (suc (suc d)) ++ axes_from 128 (suc (suc d)))))

-- how many candidates of dimension d pass at depth D
unfoldable pub passed : ℕ → ℕ → ℕ
passed d D = passing d D (candidates d (box_depth d D))

pub counts : (passed 2 0 ≡ 2) × (passed 2 1 ≡ 2 * 2) × (passed 2 2 ≡ 2 * 4) × (passed 2 3 ≡ 2 * 8) × (passed 3 1 ≡ 6 * 2) × (passed 3 2 ≡ 6 * 4)
unfolding passed candidates passing words joined axes_from code_refusal head_refusal length_of body_refusal first_refusal each fresh permutes orthants_fit
    own_minus signs_own is_dimension halvings greatest_depth level split_place box_depth code_length minus axis high dimension_of depth_of entries_of orthants_of
counts = (refl, refl, refl, refl, refl, refl)

-- the roots in dictionary order
pub roots_in_order : roots 3 ≡ (1 ∷ 2 ∷ 3 ∷ []) ∷ (1 ∷ 3 ∷ 2 ∷ []) ∷ (2 ∷ 1 ∷ 3 ∷ []) ∷ (2 ∷ 3 ∷ 1 ∷ []) ∷ (3 ∷ 1 ∷ 2 ∷ []) ∷ (3 ∷ 2 ∷ 1 ∷ []) ∷ []
unfolding roots arrangements joined picks axes_from
roots_in_order = refl
