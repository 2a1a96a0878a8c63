-- The last step of a leaf's path, by where the leaf starts on its root's stretch of the line: child 0 has the first half of its parent's
-- part, child 1 the second. And where the leaf after it starts.
use Rattle.std.specs.Prelude.{◌≡◌, refl, List, [], ◌∷◌, ◌++◌, ℕ, zero, suc, ◌+◌, ◌-◌, ◌*◌, ◌/◌, ◌%◌, ◌^◌, ◌≤◌, ◌<◌, length, Bool, not, eqb, bit_and}
use Rattle.std.proofs.Common.{sym, ◌∙◌, add-mul, mul_assoc, mul-div_cancel, suc-mul, length-append, pow-add, pow_pos}
use Rattle.std.proofs.Math.Path.{ap}
use native.Mathlib.Omega.{arith}
use Rattle.std.proofs.Math.Decide.{dec_lt}
use Rattle.std.proofs.lemmas.Bool.Decides.{nat_tests}
use Rattle.std.proofs.lemmas.List.{get_or_at}
use Rattle.std.proofs.lemmas.Nat.Bits.{and_pow, bit_at-lt}
use Rattle.std.specs.Int.{bit_at}
use Rattle.dimension.specs.Sizes.{greatest_depth}
use Rattle.bisection.specs.Codes.{IsCodeOf}
use Rattle.bisection.proofs.Theorems.CodePaths.{one_path}
use Rattle.positions.specs.Positions.{start_of, size_of}
use Rattle.positions.specs.RootNumbers.{number_in}
use Rattle.sheets.specs.Forests.{TreeCell}
use Rattle.sheets.specs.Sheets.{GoodSheet, leaf_in}
use Rattle.sheets.specs.Theorems.Listing.{code_of_cell}
use Rattle.finding.specs.Sizes.{start_joined, sizes_none, sizes_next}
use Rattle.finding.specs.Records.{good_stretch}
use Rattle.finding.specs.Theorems.Nested.{same_stretch}
use Rattle.finding.specs.Theorems.OneOfThree.{CellOf, ends, start_under, leaf_cell, leaf_starts}
use Rattle.rings.specs.Rings.{code_for}

-- whether the last step of a code's path, where it has one, is 1
abbrev pub IsSecond : List ℕ → Bool → Type 0
IsSecond code r = (root path : List ℕ) (b : ℕ) → IsCodeOf code root (path ++ b ∷ []) → r ≡ eqb b 1

-- a part starts a whole number of its sizes from the front of the stretch
start_whole : (M : ℕ) (path : List ℕ) → length path ≤ M → (q : ℕ) × (start_of M path ≡ q * 2 ^ (M - length path))
unfolding start_of
start_whole M [] l = (0, omega arith)
start_whole zero (b ∷ path) l = absurd (omega arith)
start_whole (suc M) (b ∷ path) l = let o = start_whole M path (omega arith) in (b * 2 ^ length path + o.0, ap (λ (n : ℕ). b * 2 ^ n + start_of n path) less ∙ ap (λ (n : ℕ). b * 2 ^ M + n) o.1 ∙ joined o.0 ∙ ap (λ (n : ℕ). (b * 2 ^ length path + o.0) * 2 ^ n) rest)
  where
    less : suc M - 1 ≡ M
    less = omega arith

    rest : M - length path ≡ suc M - suc (length path)
    rest = omega arith

    parts : length path + (M - length path) ≡ M
    parts = omega arith

    joined : (q : ℕ) → b * 2 ^ M + q * 2 ^ (M - length path) ≡ (b * 2 ^ length path + q) * 2 ^ (M - length path)
    joined q = sym (add-mul (b * 2 ^ length path) q (2 ^ (M - length path))
        ∙ ap (λ (n : ℕ). n + q * 2 ^ (M - length path)) (mul_assoc b (2 ^ length path) (2 ^ (M - length path)) ∙ ap (λ (n : ℕ). b * n) (sym (pow-add 2 (length path) (M - length path)) ∙ ap (λ (n : ℕ). 2 ^ n) parts)))

-- so that of a child is an even number of them, and its last step
child_start : (M : ℕ) (path : List ℕ) (b : ℕ) → b ≤ 1 → length path < M → start_of M (path ++ b ∷ []) / 2 ^ (M - suc (length path)) % 2 ≡ b
child_start M path b l h = ap (λ (n : ℕ). n / 2 ^ (M - suc (length path)) % 2) whole ∙ ap (λ (n : ℕ). n % 2) (mul-div_cancel (o.0 * 2 + b) (pow_pos (M - suc (length path)))) ∙ omega arith
  where
    o : (q : ℕ) × (start_of M path ≡ q * 2 ^ (M - length path))
    o = start_whole M path (omega arith)

    less : M - length path - 1 ≡ M - suc (length path)
    less = omega arith

    deep : M - length path ≡ suc (M - suc (length path))
    deep = omega arith

    twice : 2 ^ (M - length path) ≡ 2 * 2 ^ (M - suc (length path))
    twice = ap (λ (n : ℕ). 2 ^ n) deep ∙ omega arith

    own : start_of (M - length path) (b ∷ []) ≡ b * 2 ^ (M - suc (length path))
    own = unfold start_of in ap (λ (n : ℕ). b * 2 ^ n + 0) less ∙ omega arith

    whole : start_of M (path ++ b ∷ []) ≡ (o.0 * 2 + b) * 2 ^ (M - suc (length path))
    whole = start_joined M path (b ∷ []) ∙ ap (λ (n : ℕ). n + start_of (M - length path) (b ∷ [])) (o.1 ∙ ap (λ (n : ℕ). o.0 * n) twice ∙ sym (mul_assoc o.0 2 (2 ^ (M - suc (length path)))))
        ∙ ap (λ (n : ℕ). o.0 * 2 * 2 ^ (M - suc (length path)) + n) own ∙ sym (add-mul (o.0 * 2) b (2 ^ (M - suc (length path))))

-- the bit of a power
bit_is : (n k : ℕ) → not (eqb (bit_and n (2 ^ k)) 0) ≡ eqb (n / 2 ^ k % 2) 1
bit_is n k = rw (and_pow n k) (by (bit_at n k) (2 ^ k) (bit_at-lt n k) (pow_pos k))
  where
    by : (x p : ℕ) → x < 2 → 0 < p → not (eqb (x * p) 0) ≡ eqb x 1
    by x p l h = grind (arith, nat_tests)

-- a cell, by where it starts
pub start_second : {d : ℕ} {c : TreeCell} → CellOf d c → {start size : ℕ} → start ≡ start_of (greatest_depth d) c.path → size ≡ size_of (greatest_depth d) c.path → IsSecond (code_for c) (not (eqb (bit_and start size) 0))
start_second {d} {c} g {start} {size} s_is z_is root path b x = rw z_power (bit_is start (greatest_depth d - length c.path)) ∙ ap (λ (n : ℕ). eqb n 1) step
  where
    z_power : size ≡ 2 ^ (greatest_depth d - length c.path)
    z_power = unfold size_of in z_is

    one : (c.root ≡ root) × (c.path ≡ path ++ b ∷ [])
    one = one_path (code_of_cell g.good) x

    more : length (path ++ b ∷ []) ≡ suc (length path)
    more = length-append path (b ∷ []) ∙ omega arith

    small : b ≤ 1
    small = rw (get_or_at path b [] 0 (length path) refl) at (x.good_path.steps (length path) (omega (arith, more)))

    step : start / 2 ^ (greatest_depth d - length c.path) % 2 ≡ b
    step = rw (s_is, ← g.axes, one.0, one.1) (ap (λ (n : ℕ). start_of (greatest_depth (length root)) (path ++ b ∷ []) / 2 ^ (greatest_depth (length root) - n) % 2) more
        ∙ child_start (greatest_depth (length root)) path b small (omega (arith, more, x.good_path.depth)))

-- where the leaf after one starts: behind it, or at the front of the next root's stretch
pub record NextStart (start size stretch r : ℕ) : Type 0 where
  pub behind : start + size < stretch → r ≡ start + size
  pub front : stretch ≤ start + size → r ≡ 0

module _ {mark : List ℕ} {width : ℕ} {sheet : List ℕ} {n : ℕ} (g : GoodSheet mark width sheet n) where
  abbrev M : ℕ
  M = greatest_depth g.dimension

  abbrev start_at : ℕ → ℕ
  start_at i = start_of (greatest_depth g.dimension) (leaf_in g.cells i).path

  abbrev part_at : ℕ → ℕ
  part_at i = size_of (greatest_depth g.dimension) (leaf_in g.cells i).path

  abbrev root_number : ℕ → ℕ
  root_number i = number_in g.dimension (leaf_in g.cells i).root g.dimension

  part_ends : (i : ℕ) → i < length g.cells → start_at i + part_at i ≤ 2 ^ M
  part_ends i l = ends (leaf_cell g i l)

  pub start_first : 0 < length g.cells → start_at 0 ≡ 0
  start_first l = omega (arith, leaf_starts g 0 l, sizes_none M g.cells)

  module _ {i : ℕ} (l : suc i < length g.cells) where
    from : i < length g.cells
    from = omega arith

    next : root_number (suc i) * 2 ^ M + start_at (suc i) ≡ root_number i * 2 ^ M + start_at i + part_at i
    next = omega (arith, leaf_starts g i from, leaf_starts g (suc i) l, sizes_next M g.cells i from)

    -- in the same stretch
    same : start_at i + part_at i < 2 ^ M → start_at (suc i) ≡ start_at i + part_at i
    same h = omega (arith, next, ap (λ (r : ℕ). r * 2 ^ M) one)
      where
        one : root_number i ≡ root_number (suc i)
        one = same_stretch (2 ^ M) (root_number i) (root_number (suc i)) (start_at i + part_at i) (start_at (suc i)) (2 ^ M - (start_at i + part_at i)) (omega (arith, next)) (omega (arith, next)) (omega arith) (start_under (leaf_cell g (suc i) l))

    -- at the front of the next one
    turned : 2 ^ M ≤ start_at i + part_at i → start_at (suc i) ≡ 0
    turned h = omega (arith, front, ap (λ (r : ℕ). r * 2 ^ M) one)
      where
        front : root_number (suc i) * 2 ^ M + start_at (suc i) ≡ suc (root_number i) * 2 ^ M
        front = omega (arith, next, part_ends i from, suc-mul (root_number i) (2 ^ M))

        one : suc (root_number i) ≡ root_number (suc i)
        one = same_stretch (2 ^ M) (suc (root_number i)) (root_number (suc i)) 0 (start_at (suc i)) (2 ^ M) (omega (arith, front)) (omega (arith, front, pow_pos M)) (omega arith) (start_under (leaf_cell g (suc i) l))

    pub start_next : {start size r : ℕ} → start ≡ start_at i → size ≡ part_at i → NextStart start size (2 ^ M) r → r ≡ start_at (suc i)
    start_next {start} {size} {r} s_is z_is h = go (dec_lt (start + size) (2 ^ M))
      where
        go : Dec (start + size < 2 ^ M) → r ≡ start_at (suc i)
        go (yes q) = omega (arith, h.behind q, s_is, z_is, same (omega (arith, q, s_is, z_is)))
        go (no q) = omega (arith, h.front (omega arith), turned (omega (arith, s_is, z_is)))

  pub start_fits : {i : ℕ} → i < length g.cells → {start size : ℕ} → start ≡ start_at i → size ≡ part_at i → start + size < 2 ^ 64
  start_fits {i} l s_is z_is = omega (arith, s_is, z_is, part_ends i l, good_stretch g.dimension g.has_dimension)
