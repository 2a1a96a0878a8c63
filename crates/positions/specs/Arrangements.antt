-- Dictionary order, over any list of elements. A list is arranged by picking one of its elements and arranging the
-- rest; the places of the picks give the number at which the arrangement stands among all of them.
use Rattle.std.specs.Prelude.{◌≡◌, refl, List, [], ◌∷◌, ◌++◌, map, ℕ, zero, suc, ◌+◌, ◌*◌, ◌/◌, ◌%◌, ◌<◌, length, get_or}
use Rattle.std.proofs.Common.{sym, ap, ◌∙◌, arith, mul-le-mul_right, div-lt_iff_lt-mul, div-add-mod', mod-lt, length-append, get_or-append-add}
use Rattle.std.proofs.lemmas.Simd.{map-map}
use Rattle.std.proofs.lemmas.List.{length-map}
use Rattle.std.proofs.Math.ListN.{get_or-append}
use Rattle.dimension.specs.Sizes.{root_count}
use Rattle.dimension.specs.Laws.{count_some}
use Rattle.bisection.specs.Roots.{Pick, keep, picks, joined, starting_with, arrangements}

-- x is picked from a list, and leaves the rest in its order
pub data Picked (x : ℕ) : List ℕ → List ℕ → Type 0 where
  here : {xs : List ℕ} → Picked x (x ∷ xs) xs
  there : {y : ℕ} {xs rest : List ℕ} → Picked x xs rest → Picked x (y ∷ xs) (y ∷ rest)

unfoldable pub place : {x : ℕ} {xs rest : List ℕ} → Picked x xs rest → ℕ
place here = 0
place (there p) = suc (place p)

pub picked_length : {x : ℕ} {xs rest : List ℕ} → Picked x xs rest → length xs ≡ suc (length rest)
picked_length here = refl
picked_length (there p) = ap suc (picked_length p)

place_under : {x : ℕ} {xs rest : List ℕ} (p : Picked x xs rest) → place p < length xs
unfolding place
place_under here = omega arith
place_under (there p) = omega (arith, place_under p)

-- the pick at a given place
record Choice (xs : List ℕ) (i : ℕ) : Type 0 where
  first : ℕ
  rest : List ℕ
  picked : Picked first xs rest
  place_is : place picked ≡ i

choose : (xs : List ℕ) (i : ℕ) → i < length xs → Choice xs i
unfolding place
choose [] i l = absurd (omega arith)
choose (x ∷ xs) zero l = record { first = x; rest = xs; picked = here; place_is = refl }
choose (x ∷ xs) (suc i) l = let c = choose xs i (omega arith) in record { first = c.first; rest = x ∷ c.rest; picked = there c.picked; place_is = ap suc c.place_is }

-- the second list holds the elements of the first in some order
pub data Arranged : List ℕ → List ℕ → Type 0 where
  none : Arranged [] []
  next : {x : ℕ} {xs rest ws : List ℕ} → Picked x xs rest → Arranged rest ws → Arranged xs (x ∷ ws)

pub arranged_length : {xs ws : List ℕ} → Arranged xs ws → length xs ≡ length ws
arranged_length none = refl
arranged_length (next p a) = picked_length p ∙ ap suc (arranged_length a)

-- the number of an arrangement: a pick passes over all arrangements that begin with an earlier element
unfoldable pub rank : {xs ws : List ℕ} → Arranged xs ws → ℕ
rank none = 0
rank (next {ws = ws} p a) = place p * root_count (length ws) + rank a

pub rank_under : {xs ws : List ℕ} (a : Arranged xs ws) → rank a < root_count (length ws)
unfolding rank root_count
rank_under none = omega arith
rank_under (next {ws = ws} p a) = omega (arith, rank_under a, mul-le-mul_right {m = place p} {n = length ws} (root_count (length ws)) (omega (arith, place_under p, picked_length p, arranged_length a)))

-- blocks of one size m, one for each pick
record Even (block : Pick → List (List ℕ)) (xs : List ℕ) (m : ℕ) : Type 0 where
  size : {x : ℕ} {rest : List ℕ} → Picked x xs rest → length (block (record { first = x; rest = rest })) ≡ m

even_rest : {x : ℕ} {xs : List ℕ} {block : Pick → List (List ℕ)} {m : ℕ} → Even block (x ∷ xs) m → Even (λ (q : Pick). block (keep x q)) xs m
even_rest e = record { size = λ p. e.size (there p) }

blocks_length : (xs : List ℕ) (block : Pick → List (List ℕ)) (m : ℕ) → Even block xs m → length (joined (map block (picks xs))) ≡ length xs * m
unfolding joined picks
blocks_length [] block m e = omega arith
blocks_length (x ∷ xs) block m e =
    length-append (block (record { first = x; rest = xs })) (joined (map block (map (keep x) (picks xs))))
    ∙ rw (map-map block (keep x) (picks xs), blocks_length xs (λ q. block (keep x q)) m (even_rest e), e.size here) (omega arith)

block_at : {x : ℕ} {xs rest : List ℕ} (p : Picked x xs rest) (block : Pick → List (List ℕ)) (m j : ℕ) → Even block xs m → j < m → get_or (joined (map block (picks xs))) (place p * m + j) [] ≡ get_or (block (record { first = x; rest = rest })) j []
unfolding joined picks place
block_at {x} (here {xs}) block m j e l =
    ap (λ (k : ℕ). get_or (block (record { first = x; rest = xs }) ++ joined (map block (map (keep x) (picks xs)))) k []) first
    ∙ get_or-append (block (record { first = x; rest = xs })) (joined (map block (map (keep x) (picks xs)))) [] j (rw (e.size here) l)
  where
    first : 0 * m + j ≡ j
    first = omega arith
block_at (there {y} {xs} p) block m j e l =
    ap (λ (k : ℕ). get_or (block (record { first = y; rest = xs }) ++ joined (map block (map (keep y) (picks xs)))) k []) past
    ∙ get_or-append-add (block (record { first = y; rest = xs })) (joined (map block (map (keep y) (picks xs)))) (place p * m + j) []
    ∙ rw (map-map block (keep y) (picks xs)) (block_at p (λ q. block (keep y q)) m j (even_rest e) l)
  where
    past : suc (place p) * m + j ≡ length (block (record { first = y; rest = xs })) + (place p * m + j)
    past = rw (e.size here) (omega arith)

-- the arrangements that begin with a pick
abbrev starting : ℕ → Pick → List (List ℕ)
starting n p = map (starting_with p.first) (arrangements n p.rest)

starting_even : (n : ℕ) (xs : List ℕ) → length xs ≡ suc n → ((rest : List ℕ) → length rest ≡ n → length (arrangements n rest) ≡ root_count n) → Even (starting n) xs (root_count n)
starting_even n xs e count = record { size = λ {x} {rest} p. length-map (arrangements n rest) (starting_with x) ∙ count rest (omega (arith, picked_length p)) }

-- there are n! arrangements of n elements
pub arrangements_count : (n : ℕ) (xs : List ℕ) → length xs ≡ n → length (arrangements n xs) ≡ root_count n
unfolding arrangements root_count
arrangements_count zero xs e = refl
arrangements_count (suc n) xs e = blocks_length xs (starting n) (root_count n) (starting_even n xs e (arrangements_count n)) ∙ ap (λ (k : ℕ). k * root_count n) e

-- an element of a mapped list, where the default is not mapped
get_or_mapped : (f : List ℕ → List ℕ) (l : List (List ℕ)) (j : ℕ) → j < length l → get_or (map f l) j [] ≡ f (get_or l j [])
get_or_mapped f [] j h = absurd (omega arith)
get_or_mapped f (x ∷ l) zero h = refl
get_or_mapped f (x ∷ l) (suc j) h = get_or_mapped f l j (omega arith)

-- an arrangement stands at its number
pub stands : {xs ws : List ℕ} (a : Arranged xs ws) → get_or (arrangements (length ws) xs) (rank a) [] ≡ ws
unfolding arrangements rank
stands none = refl
stands (next {x} {xs} {rest} {ws} p a) =
    block_at p (starting n) (root_count n) (rank a) (starting_even n xs (picked_length p ∙ ap suc size) (arrangements_count n)) (rank_under a)
    ∙ get_or_mapped (starting_with x) (arrangements n rest) (rank a) (rw (arrangements_count n rest size) (rank_under a))
    ∙ ap (starting_with x) (stands a)
  where
    n : ℕ
    n = length ws

    size : length rest ≡ length ws
    size = arranged_length a

-- every number below n! is an arrangement's
pub record Ranked (xs : List ℕ) (k : ℕ) : Type 0 where
  pub entries : List ℕ
  pub arranged : Arranged xs entries
  pub is : rank arranged ≡ k

pub ranked : (n : ℕ) (xs : List ℕ) (k : ℕ) → length xs ≡ n → k < root_count n → Ranked xs k
unfolding rank root_count
ranked zero [] k e l = record { entries = []; arranged = none; is = omega arith }
ranked zero (x ∷ xs) k e l = absurd (omega arith)
ranked (suc n) xs k e l = after (ranked n c.rest (k % root_count n) left (mod-lt k (count_some n)))
  where
    c : Choice xs (k / root_count n)
    c = choose xs (k / root_count n) (rw e ((div-lt_iff_lt-mul (count_some n)).1 l))

    left : length c.rest ≡ n
    left = omega (arith, picked_length c.picked)

    after : Ranked c.rest (k % root_count n) → Ranked xs k
    after r = record { entries = c.first ∷ r.entries; arranged = next c.picked r.arranged; is = rw (c.place_is, r.is, sym (arranged_length r.arranged) ∙ left) (div-add-mod' k (root_count n)) }
