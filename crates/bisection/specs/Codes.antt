-- Document 01, "The code": a level, a signed permutation and an orthant list.
-- A signed entry is its byte: the axis, plus 128 for minus.
use Rattle.std.specs.Prelude.{◌≡◌, Bool, false, cond, List, [], ◌∷◌, ◌++◌, ℕ, zero, suc, ◌+◌, ◌-◌, ◌/◌, ◌%◌, ◌^◌, eqb, leb, length, get_or, take, drop}
use Rattle.dimension.specs.Sizes.{level, split_place}
use Rattle.bisection.specs.Roots.{GoodRoot, GoodPath}

-- an entry's sign and its axis
unfoldable pub minus : ℕ → Bool
minus e = leb 128 e

unfoldable pub axis : ℕ → ℕ
axis e = cond (minus e) (e - 128) e

unfoldable pub negated : ℕ → ℕ
negated e = cond (minus e) (e - 128) (e + 128)

-- the first k entries turned left by one place, the entry that moved to place k negated
unfoldable pub turned : ℕ → List ℕ → List ℕ
turned k es = take (k - 1) (drop 1 es) ++ negated (get_or es 0 0) ∷ drop k es

-- child 0 keeps the signed permutation, child 1 turns its first k entries
unfoldable pub stepped : ℕ → ℕ → List ℕ → List ℕ
stepped zero k es = es
stepped (suc b) k es = turned k es

-- an orthant byte is high on axis a: bit a - 1 is set
unfoldable pub high : ℕ → ℕ → Bool
high o a = eqb (o / 2 ^ (a - 1) % 2) 1

-- the axis has a minus in the permutation
unfoldable pub minus_on : List ℕ → ℕ → Bool
minus_on [] a = false
minus_on (e ∷ es) a = cond (eqb (axis e) a) (minus e) (minus_on es a)

-- the byte with bit a - 1 set for those axes a up to n that have a minus
unfoldable pub orthant_to : ℕ → List ℕ → ℕ
orthant_to zero es = 0
orthant_to (suc n) es = cond (minus_on es (suc n)) (2 ^ n) 0 + orthant_to n es

-- the orthant that a permutation gives: high on the axes that have a minus
unfoldable pub orthant : List ℕ → ℕ
orthant es = orthant_to (length es) es

-- what a code says beside its dimension and depth
pub record Name : Type 0 where
  pub entries : List ℕ
  pub orthants : List ℕ

-- the step from depth D: when the new level is 0, one orthant is appended
unfoldable pub step : ℕ → ℕ → ℕ → Name → Name
step d D b n = record {
  entries = stepped b (split_place d D) n.entries;
  orthants = cond (eqb (level d (suc D)) 0) (n.orthants ++ orthant (stepped b (split_place d D) n.entries) ∷ []) n.orthants;
}

unfoldable pub name_below : ℕ → ℕ → Name → List ℕ → Name
name_below d D n [] = n
name_below d D n (b ∷ path) = name_below d (suc D) (step d D b n) path

-- the roots start with all signs plus, and no orthant
abbrev pub root_name : List ℕ → Name
root_name root = record { entries = root; orthants = [] }

unfoldable pub name_of : List ℕ → List ℕ → Name
name_of root path = name_below (length root) 0 (root_name root) path

-- bytes: dimension; depth; d permutation bytes; L orthant bytes
unfoldable pub bytes : ℕ → ℕ → Name → List ℕ
bytes d D n = d ∷ D ∷ (n.entries ++ n.orthants)

-- the code of a root and a path
unfoldable pub code_of : List ℕ → List ℕ → List ℕ
code_of root path = bytes (length root) (length path) (name_of root path)

-- the code is that of this good root and good path
pub record IsCodeOf (code root path : List ℕ) : Type 0 where
  pub good_root : GoodRoot root
  pub good_path : GoodPath (length root) path
  pub is : code ≡ code_of root path

-- the parts of a code's bytes
unfoldable pub dimension_of : List ℕ → ℕ
dimension_of code = get_or code 0 0

unfoldable pub depth_of : List ℕ → ℕ
depth_of code = get_or code 1 0

unfoldable pub entries_of : List ℕ → List ℕ
entries_of code = take (dimension_of code) (drop 2 code)

unfoldable pub orthants_of : List ℕ → List ℕ
orthants_of code = drop (2 + dimension_of code) code

unfoldable pub parts_of : List ℕ → Name
parts_of code = record { entries = entries_of code; orthants = orthants_of code }
