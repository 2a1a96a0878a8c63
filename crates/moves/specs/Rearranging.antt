-- Entries by value rearranged as the rule table says where a crossing stays in the box.
use Rattle.std.specs.Prelude.{◌≡◌, refl, Bool, true, false, cond, List, [], ◌∷◌, ℕ, zero, suc, ◌+◌, ◌*◌, ◌/◌, ◌%◌, ◌^◌, ◌≤◌, ◌<◌, eqb, get_or}
use Rattle.std.proofs.Common.{sym, ◌∙◌, subst, arith, mod-lt, eq-eqb, ne_eqb}
use Rattle.std.proofs.Math.Path.{ap}
use Rattle.std.proofs.Math.Decide.{dec_lt, ℕ_discrete}
use Rattle.bisection.specs.Codes.{axis, minus, negated, turned, high}
use Rattle.bisection.specs.Refusals.{same_sign}
use Rattle.bisection.specs.Theorems.Entries.{unturned}
use Rattle.bisection.specs.Theorems.Table.{Move, swap, farther, left, right, trade, move, new_at, exchanged, negated_at, entries_by}
use Rattle.fours.specs.declared.Four.{Four}
use Rattle.fours.specs.Fours.{four, Holds}
use Rattle.fours.specs.Laws.{four_of, held_few, held_at, held_axis}
use Rattle.fours.specs.Words.{WordIs}
use Rattle.entries.specs.Words.{word_of, bytes_of}
use Rattle.entries.specs.Walks.{place_in, place_under, place_within}

-- entry k + 1 carries the own sign that an orthant byte gives its axis
abbrev pub own_next : ℕ → ℕ → List ℕ → Bool
own_next k own es = same_sign (minus (get_or es k 0)) (high own (axis (get_or es k 0)))

-- the entries of a row, and the place of the new vertex
pub record Rearranges (k : ℕ) (m : Move) (es : List ℕ) (place : ℕ) (r : List ℕ) : Type 0 where
  pub entries : (d : ℕ) → r ≡ entries_by d k m es
  pub new : (d : ℕ) → place ≡ new_at d k m
  pub few : place < 4

-- the rows that stay in the box
unfoldable pub within : ℕ → ℕ → Bool → Move
within k i own = cond (eqb i 0) (cond own left trade) (cond (eqb i k) (cond own (swap k) right) (swap i))

pub within_is : (d k i : ℕ) (own : Bool) → i < d → (i ≡ 0 → k < d) → move d k i own ≡ within k i own
unfolding move within
within_is d k i own h f = rw (ne_eqb i d (omega arith)) (go (ℕ_discrete i 0))
  where
    go : Dec (i ≡ 0)
        → cond (eqb i 0) (cond (eqb k d) farther (cond own left trade)) (cond (eqb i k) (cond own (swap k) right) (swap i)) ≡ cond (eqb i 0) (cond own left trade) (cond (eqb i k) (cond own (swap k) right) (swap i))
    go (yes e) = rw (eq-eqb i 0 e, ne_eqb k d (omega (arith, f e))) refl
    go (no e) = rw (ne_eqb i 0 e) refl

-- d entries that may be rearranged across facet i
pub record Movable (d k i : ℕ) (e : Four) : Type 0 where
  pub es : List ℕ
  pub held : Holds d e es
  pub two : 2 ≤ d
  pub split : 1 ≤ k
  pub most : k ≤ d
  pub inside : i < d
  pub first : i ≡ 0 → k < d

module _ {d k i : ℕ} {e : Four} (m : Movable d k i e) where
  few : d ≤ 4
  few = held_few m.held

  pub split_few : k ≤ 4
  split_few = omega (arith, m.most, few)

  pub facet_few : i < 4
  facet_few = omega (arith, m.inside, few)

  -- as the code has the place of the next entry
  module _ {n : ℕ} (f : n ≡ place_in k d) where
    next_range : n < d
    next_range = rw f (place_within k d (omega (arith, m.two)))

    module _ {w x : ℕ} (h : WordIs e w) (q : x ≡ get_or (bytes_of w) n 0) where
      is_next : x ≡ get_or (four e) n 0
      is_next = q ∙ ap (λ (l : List ℕ). get_or l n 0) (sym h.bytes)

      pub next_low : 1 ≤ axis x
      next_low = rw is_next (held_axis m.held n next_range)

      pub next_high : axis x ≤ 8
      next_high = rw (is_next, held_at m.held n next_range) (omega (arith, m.held.signed.high n next_range, few))

-- a row as a word: what it makes of the bits at which the old entries begin in theirs, and the new vertex's place from bit 5 on
unfoldable pub row_of : ℕ → Move → ℕ
row_of k m = word_of (entries_by 4 k m (0 ∷ 8 ∷ 16 ∷ 24 ∷ [])) + 32 * new_at 4 k m

-- by its number
unfoldable pub row_at : ℕ → ℕ
unfolding row_of within entries_by new_at turned unturned exchanged negated_at negated minus word_of
row_at n = row_of (n / 8) (within (n / 8) (n / 2 % 4) (eqb (n % 2) 0))

-- an entry taken from the word of the old ones
unfoldable pub taken_by : ℕ → ℕ → ℕ
taken_by w from = cond (minus (from % 256)) (negated (w / 2 ^ (from % 32) % 256)) (w / 2 ^ (from % 32) % 256)

-- the row as the code takes it: the entries, and the new vertex's place
abbrev Takes : ℕ → ℕ → Move → Type 0
Takes by k m = ((w d : ℕ) → taken_by w by ∷ taken_by w (by / 2 ^ 8) ∷ taken_by w (by / 2 ^ 16) ∷ taken_by w (by / 2 ^ 24) ∷ [] ≡ entries_by d k m (bytes_of w))
    × ((d : ℕ) → by / 2 ^ 5 % 4 ≡ new_at d k m)

-- the rows that turn or trade the first k + 1 entries, and those that exchange entry k with the next
all_rows : (j k : ℕ) → 1 ≤ k → k < 4 → Takes (row_of k left) k left × Takes (row_of k right) k right × Takes (row_of k trade) k trade × Takes (row_of j (swap k)) j (swap k)
unfolding row_of taken_by minus negated word_of entries_by new_at turned unturned exchanged negated_at
all_rows j zero l u = absurd (omega arith)
all_rows j (suc zero) l u = ((λ w d. refl, λ d. refl), (λ w d. refl, λ d. refl), (λ w d. refl, λ d. refl), (λ w d. refl, λ d. refl))
all_rows j (suc (suc zero)) l u = ((λ w d. refl, λ d. refl), (λ w d. refl, λ d. refl), (λ w d. refl, λ d. refl), (λ w d. refl, λ d. refl))
all_rows j (suc (suc (suc zero))) l u = ((λ w d. refl, λ d. refl), (λ w d. refl, λ d. refl), (λ w d. refl, λ d. refl), (λ w d. refl, λ d. refl))
all_rows j (suc (suc (suc (suc k)))) l u = absurd (omega arith)

-- the row of a facet that stays in the box
row_takes : (k i : ℕ) (own : Bool) → 1 ≤ k → k ≤ 4 → i < 4 → (i ≡ 0 → k < 4) → Takes (row_of k (within k i own)) k (within k i own)
unfolding within
row_takes k i own l u h f = go own (ℕ_discrete i 0) (ℕ_discrete i k)
  where
    go : (o : Bool) → Dec (i ≡ 0) → Dec (i ≡ k) → Takes (row_of k (within k i o)) k (within k i o)
    go true (yes z) s = rw (eq-eqb i 0 z) (all_rows 0 k l (f z)).0
    go false (yes z) s = rw (eq-eqb i 0 z) (all_rows 0 k l (f z)).2
    go true (no z) (yes s) = rw (ne_eqb i 0 z, eq-eqb i k s) (all_rows k k l (omega arith)).3
    go false (no z) (yes s) = rw (ne_eqb i 0 z, eq-eqb i k s) (all_rows 0 k l (omega arith)).1
    go o (no z) (no s) = rw (ne_eqb i 0 z, ne_eqb i k s) (all_rows k i (omega arith) h).3

-- by its number
numbered : (k i : ℕ) (own : Bool) → i < 4 → row_at (8 * k + 2 * i + cond own 0 1) ≡ row_of k (within k i own)
unfolding row_at
numbered k i own h = go own
  where
    go : (o : Bool) → row_at (8 * k + 2 * i + cond o 0 1) ≡ row_of k (within k i o)
    go true = rw (high, low, last) refl
      where
        high : (8 * k + 2 * i + 0) / 8 ≡ k
        high = omega arith

        low : (8 * k + 2 * i + 0) / 2 % 4 ≡ i
        low = omega arith

        last : (8 * k + 2 * i + 0) % 2 ≡ 0
        last = omega arith
    go false = rw (high, low, last) refl
      where
        high : (8 * k + 2 * i + 1) / 8 ≡ k
        high = omega arith

        low : (8 * k + 2 * i + 1) / 2 % 4 ≡ i
        low = omega arith

        last : (8 * k + 2 * i + 1) % 2 ≡ 1
        last = omega arith

-- where the dimension has no entry k + 1, its sign changes nothing
any_sign : (k i : ℕ) (s t : Bool) → (i ≡ 0 → ⊥) → (i ≡ k → ⊥) → within k i s ≡ within k i t
unfolding within
any_sign k i s t z q = rw (ne_eqb i 0 z, ne_eqb i k q) refl

-- as the code has each of them
module _ {d k i : ℕ} (own : ℕ) {e : Four} (m : Movable d k i e) {n w x : ℕ} {b : Bool} (f : n ≡ place_in k d) (h : WordIs e w) (g : x ≡ get_or (bytes_of w) n 0)
    (o : b ≡ same_sign (minus x) (high own (axis x))) where
  own_as : within k i b ≡ within k i (own_next k own (four e))
  own_as = go (dec_lt k d)
    where
      go : Dec (k < d) → within k i b ≡ within k i (own_next k own (four e))
      go (yes v) = ap (within k i) (o ∙ ap (λ (y : ℕ). same_sign (minus y) (high own (axis y))) (is_next m f h g ∙ ap (λ (t : ℕ). get_or (four e) t 0) (f ∙ place_under k d v)))
      go (no v) = any_sign k i b (own_next k own (four e)) (λ z. v (m.first z)) (λ z. v (omega (arith, m.inside)))

  taken : Takes (row_of k (within k i b)) k (within k i b)
  taken = row_takes k i b m.split (split_few m) (facet_few m) (λ z. omega (arith, m.first z, few m))

  pub rearranged_is : {a by p q r s : ℕ} → (a ≡ 8 * k + 2 * i + cond b 0 1) × (8 ≤ a) × (a < 40) → by ≡ row_at a → p ≡ taken_by w by → q ≡ taken_by w (by / 2 ^ 8)
      → r ≡ taken_by w (by / 2 ^ 16) → s ≡ taken_by w (by / 2 ^ 24) → Rearranges k (within k i (own_next k own (four e))) (four e) (by / 2 ^ 5 % 4) (four (four_of p q r s))
  rearranged_is {a} {by} {p} {q} {r} {s} y v t1 t2 t3 t4 = subst (λ (v : Move). Rearranges k v (four e) (by / 2 ^ 5 % 4) (four (four_of p q r s))) own_as
      (record { entries = λ c. rw (t1, t2, t3, t4, h.bytes, row) (taken.0 w c); new = λ c. rw row (taken.1 c); few = mod-lt (by / 2 ^ 5) (omega arith) })
    where
      row : by ≡ row_of k (within k i b)
      row = v ∙ ap row_at y.0 ∙ numbered k i b (facet_few m)
