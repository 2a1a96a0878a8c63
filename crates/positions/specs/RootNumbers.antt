-- The roots of dimension d, for every d: a permutation of the axes stands among them at the number that its entries
-- give, each of them is a permutation, none stands twice, and there are d! of them.
use Rattle.std.specs.Prelude.{◌≡◌, Bool, true, false, cond, ◌&&◌, List, [], ◌∷◌, ◌++◌, ℕ, zero, suc, ◌+◌, ◌-◌, ◌*◌, ◌^◌, ◌≤◌, ◌<◌, ltb, length, drop}
use Rattle.std.proofs.Math.Path.{refl, ap}
use Rattle.std.proofs.Common.{sym, ◌∙◌, subst, arith, le_refl, mul-le-mul_left, add-one, length-drop, drop_of_length-le, drop-cons, lt-ltb, le-ltb}
use Rattle.std.proofs.Math.Decide.{ℕ_discrete}
use Rattle.std.proofs.Math.Pow.{pow-lt}
use Rattle.std.proofs.Math.ListN.{get_or, get_or-append}
use Rattle.dimension.specs.Sizes.{is_dimension, root_count}
use Rattle.dimension.specs.Laws.{dimension, count_some, counts_rise}
use Rattle.bisection.specs.Roots.{Permutation, GoodRoot, axes_from, arrangements, roots}
use Rattle.positions.specs.Arrangements.{Picked, here, there, Arranged, arranged_length, rank, rank_under, arrangements_count, stands, Ranked, ranked}
use Rattle.positions.specs.Rising.{Rising, ends, goes_on, picked_over, under, number_of, rank_is, In, arranged_in, arranged_apart, arranged_by}

-- how many of the entries between place i and place j are smaller than entry i
unfoldable pub smaller_in : List ℕ → ℕ → ℕ → ℕ
smaller_in root i zero = 0
smaller_in root i (suc j) = smaller_in root i j + cond (ltb i j && ltb (get_or root j 0) (get_or root i 0)) 1 0

-- the number that the first i entries give, each weighed by how many are left
unfoldable pub number_in : ℕ → List ℕ → ℕ → ℕ
number_in d root zero = 0
number_in d root (suc i) = number_in d root i * (d - i) + smaller_in root i d

-- the loops that count
pub smaller_none : (root : List ℕ) (i j : ℕ) → j ≤ suc i → smaller_in root i j ≡ 0
unfolding smaller_in
smaller_none root i zero h = refl
smaller_none root i (suc j) h = rw (le-ltb i j (omega arith), smaller_none root i j (omega arith)) refl

pub smaller_more : (root : List ℕ) (i j : ℕ) → i < j → get_or root j 0 < get_or root i 0 → smaller_in root i (suc j) ≡ smaller_in root i j + 1
unfolding smaller_in
smaller_more root i j h l = rw (lt-ltb i j h, lt-ltb (get_or root j 0) (get_or root i 0) l) refl

pub smaller_same : (root : List ℕ) (i j : ℕ) → i < j → get_or root i 0 ≤ get_or root j 0 → smaller_in root i (suc j) ≡ smaller_in root i j
unfolding smaller_in
smaller_same root i j h l = rw (lt-ltb i j h, le-ltb (get_or root j 0) (get_or root i 0) l) (omega arith)

pub smaller_few : (root : List ℕ) (i j : ℕ) → smaller_in root i j ≤ j
unfolding smaller_in
smaller_few root i zero = omega arith
smaller_few root i (suc j) = go (ltb i j && ltb (get_or root j 0) (get_or root i 0)) (smaller_few root i j)
  where
    go : (b : Bool) → smaller_in root i j ≤ j → smaller_in root i j + cond b 1 0 ≤ suc j
    go true h = omega arith
    go false h = omega arith

-- a number is small
number_under : (d : ℕ) (root : List ℕ) (i : ℕ) → d ≤ 4 → number_in d root i + 1 ≤ 2 ^ (3 * i)
unfolding number_in
number_under d root zero h = omega arith
number_under d root (suc i) h = rw more (omega (arith, step (number_in d root i) (d - i) (smaller_in root i d) (2 ^ (3 * i)) (number_under d root i h) (omega arith) (omega (arith, smaller_few root i d))))
  where
    more : 3 * suc i ≡ suc (suc (suc (3 * i)))
    more = omega arith

    step : (x y s p : ℕ) → x + 1 ≤ p → y ≤ 4 → s ≤ 4 → x * y + s + 1 ≤ 2 * (2 * (2 * p))
    step x y s p a b c = omega (arith, mul-le-mul_left x b)

-- the loop that numbers a root
pub number_none : (d : ℕ) (root : List ℕ) → number_in d root 0 ≡ 0
unfolding number_in
number_none d root = refl

pub number_more : (d : ℕ) (root : List ℕ) (i : ℕ) → number_in d root (i + 1) ≡ number_in d root i * (d - i) + smaller_in root i d
unfolding number_in
number_more d root i = rw add-one refl

pub number_times : (d : ℕ) (root : List ℕ) (i : ℕ) → d ≤ 4 → i ≤ d → number_in d root i * (d - i) < 2 ^ 15
number_times d root i h l = let four : d - i ≤ 4 = omega arith in
    omega (arith, mul-le-mul_left (number_in d root i) four, number_under d root i h, pow-lt {i = 3 * i} {j = 13} (omega arith))

-- the laws that `number` uses
pub ruleset numbering = (number_none, number_more, number_times, smaller_few)

-- the number looks at the front alone
smaller_front : (root rest : List ℕ) (i j : ℕ) → i < length root → j ≤ length root → smaller_in (root ++ rest) i j ≡ smaller_in root i j
unfolding smaller_in
smaller_front root rest i zero h l = refl
smaller_front root rest i (suc j) h l = rw (smaller_front root rest i j h (omega arith), get_or-append root rest 0 j l, get_or-append root rest 0 i h) refl

pub number_front : (root rest : List ℕ) (d i : ℕ) → d ≡ length root → i ≤ d → number_in d (root ++ rest) i ≡ number_in d root i
unfolding number_in
number_front root rest d zero e h = refl
number_front root rest d (suc i) e h = rw (number_front root rest d i e (omega arith), smaller_front root rest i d (omega arith) (omega arith)) refl

-- what is counted from place j on is what stands there; so the number of all places is that of the entries
smaller_rest : (root : List ℕ) (i n j : ℕ) → j + n ≡ length root → i < j → smaller_in root i (length root) ≡ smaller_in root i j + under (get_or root i 0) (drop j root)
unfolding smaller_in under
smaller_rest root i zero j e h = let last : length root ≡ j = omega arith in rw (drop_of_length-le root {i = j} (omega arith), last) (omega arith)
smaller_rest root i (suc n) j e h = smaller_rest root i n (suc j) (omega arith) (omega arith) ∙ rw (drop-cons root j 0 (omega arith), lt-ltb i j h) (omega arith)

number_rest : (root : List ℕ) (n i : ℕ) → i + n ≡ length root → number_in (length root) root (length root) ≡ number_in (length root) root i * root_count n + number_of (drop i root)
unfolding number_in number_of root_count
number_rest root zero i e = let last : length root ≡ i = omega arith in rw (drop_of_length-le root {i = i} (omega arith), last) (omega arith)
number_rest root (suc n) i e = number_rest root n (suc i) (omega arith) ∙ rw (drop-cons root i 0 (omega arith), behind, left, size) (omega arith)
  where
    left : length root - i ≡ suc n
    left = omega arith

    behind : smaller_in root i (length root) ≡ under (get_or root i 0) (drop (suc i) root)
    behind = smaller_rest root i n (suc i) (omega arith) (omega arith) ∙ omega (arith, smaller_none root i (suc i) (omega arith))

    size : length (drop (suc i) root) ≡ n
    size = rw (length-drop (suc i) root) (omega arith)

pub number_is : (root : List ℕ) → number_in (length root) root (length root) ≡ number_of root
unfolding number_in
number_is root = number_rest root (length root) 0 (omega arith) ∙ omega arith

-- the axes from a on: they rise, there are n of them, and they are the numbers from a to below a + n
pub axes_rise : (a n : ℕ) → Rising a (axes_from a n)
unfolding axes_from
axes_rise a zero = ends
axes_rise a (suc n) = goes_on (le_refl a) (axes_rise (suc a) n)

pub axes_length : (a n : ℕ) → length (axes_from a n) ≡ n
unfolding axes_from
axes_length a zero = refl
axes_length a (suc n) = ap suc (axes_length (suc a) n)

axes_in : (a n v : ℕ) → a ≤ v → v < a + n → In v (axes_from a n)
unfolding axes_from
axes_in a zero v l h = absurd (omega arith)
axes_in a (suc n) v l h = go (ℕ_discrete v a) (axes_in (suc a) n v)
  where
    go : Dec (v ≡ a) → (suc a ≤ v → v < suc a + n → In v (axes_from (suc a) n)) → In v (a ∷ axes_from (suc a) n)
    go (yes e) on = subst (λ (w : ℕ). In w (a ∷ axes_from (suc a) n)) (sym e) (record { rest = axes_from (suc a) n; picked = here })
    go (no e) on = let m = on (omega arith) (omega arith) in record { rest = a ∷ m.rest; picked = there m.picked }

axes_under : (a n v : ℕ) {rest : List ℕ} → Picked v (axes_from a n) rest → v < a + n
unfolding axes_from
axes_under a (suc n) v here = omega arith
axes_under a (suc n) v (there p) = omega (arith, axes_under (suc a) n v p)
axes_under a zero v p = elim p [ ]

-- the permutations of d axes are their arrangements
pub permutation_arranged : (root : List ℕ) → Permutation root → Arranged (axes_from 1 (length root)) root
permutation_arranged root p = arranged_by root (axes_from 1 (length root)) (sym (axes_length 1 (length root))) (λ i l. axes_in 1 (length root) (get_or root i 0) (p.low i l) (omega (arith, p.high i l))) p.apart

arranged_permutation : (d : ℕ) (root : List ℕ) → d ≡ length root → Arranged (axes_from 1 d) root → Permutation root
arranged_permutation d root e a = record {
  low = λ i l. picked_over (axes_rise 1 d) (arranged_in a i l).picked;
  high = λ i l. omega (arith, axes_under 1 d (get_or root i 0) (arranged_in a i l).picked);
  apart = arranged_apart (axes_rise 1 d) a;
}

-- so the roots are as many as the arrangements of d axes
pub roots_count : (d : ℕ) → length (roots d) ≡ root_count d
unfolding roots
roots_count d = arrangements_count d (axes_from 1 d) (axes_length 1 d)

-- a permutation stands among the roots, at its number
pub record Numbered (root : List ℕ) : Type 0 where
  pub small : number_in (length root) root (length root) < length (roots (length root))
  pub is : get_or (roots (length root)) (number_in (length root) root (length root)) [] ≡ root

pub numbered : (root : List ℕ) → Permutation root → Numbered root
unfolding roots
numbered root p = record { small = rw (number, roots_count (length root)) (rank_under a); is = rw number (stands a) }
  where
    a : Arranged (axes_from 1 (length root)) root
    a = permutation_arranged root p

    number : number_in (length root) root (length root) ≡ rank a
    number = number_is root ∙ sym (rank_is (axes_rise 1 (length root)) a)

-- what stands at place i of the roots is a permutation with the number i
module _ (d i : ℕ) (h : i < length (roots d)) where
  r : Ranked (axes_from 1 d) i
  r = ranked d (axes_from 1 d) i (axes_length 1 d) (rw (← roots_count d) h)

  size : d ≡ length r.entries
  size = sym (axes_length 1 d) ∙ arranged_length r.arranged

  is : get_or (roots d) i [] ≡ r.entries
  unfolding roots
  is = ap (λ (n : ℕ). get_or (arrangements n (axes_from 1 d)) i []) size ∙ ap (λ (k : ℕ). get_or (arrangements (length r.entries) (axes_from 1 d)) k []) (sym r.is) ∙ stands r.arranged

  pub roots_length : length (get_or (roots d) i []) ≡ d
  roots_length = ap length is ∙ sym size

  pub roots_permutation : Permutation (get_or (roots d) i [])
  roots_permutation = subst Permutation (sym is) (arranged_permutation d r.entries size r.arranged)

  pub roots_number : number_in d (get_or (roots d) i []) d ≡ i
  roots_number = ap (λ (n : ℕ). number_in n (get_or (roots d) i []) n) (sym roots_length) ∙ number_is (get_or (roots d) i []) ∙ ap number_of is ∙ sym (rank_is (axes_rise 1 d) r.arranged) ∙ r.is

-- no root stands twice
pub roots_apart : (d i j : ℕ) → i < length (roots d) → j < length (roots d) → get_or (roots d) i [] ≡ get_or (roots d) j [] → i ≡ j
roots_apart d i j h l q = sym (roots_number d i h) ∙ ap (λ (root : List ℕ). number_in d root d) q ∙ roots_number d j l

pub roots_good : (d : ℕ) → is_dimension d ≡ true → (i : ℕ) → i < length (roots d) → GoodRoot (get_or (roots d) i [])
roots_good d e i h = record { dimension = rw (roots_length d i h) e; permutation = roots_permutation d i h }

pub roots_some : (d : ℕ) → 0 < length (roots d)
roots_some d = omega (arith, roots_count d, count_some d)

pub roots_few : (d : ℕ) → is_dimension d ≡ true → length (roots d) ≤ 24
roots_few d e = omega (arith, roots_count d, counts_rise d 4 (dimension d e).few, most)
  where
    most : root_count 4 ≡ 24
    most = unfold root_count in refl
