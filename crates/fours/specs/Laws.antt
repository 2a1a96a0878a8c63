-- The laws of entries by value: one for each function, and what a turn does to a signed permutation that they hold.
use Rattle.std.specs.Prelude.{◌≡◌, cond, ltb, eqb, length, get_or, drop}
use Rattle.std.proofs.Math.Path.{refl, sym, ap}
use Rattle.std.proofs.Common.{◌∙◌, arith, zero-add, length-append, length-drop, take-append-drop, take_at, drop-drop, get_or-drop, get_or-take, get_or-append-add, length-take-le, ne_eqb}
use mathlib.Core.List.{List, [], ◌∷◌, ◌++◌, append_assoc}
use Prim.Native.Nat.{ℕ, zero, suc, ◌+◌, ◌-◌, ◌≤◌, ◌<◌}
use Rattle.std.proofs.Math.ListN.{take, set, get_or-append}
use Rattle.std.proofs.Math.Seq.{paste, take-set-le, drop-set-add}
use Rattle.bisection.specs.Codes.{axis, negated, turned, stepped}
use Rattle.bisection.specs.Theorems.Entries.{unturned}
use Rattle.bisection.proofs.Theorems.Entries.{turned_append, unturned_append, signed_turned, signed_unturned}
use Rattle.fours.specs.declared.Four.{Four}
use Rattle.entries.specs.Walks.{place_in}
use Rattle.entries.specs.Words.{NoneBehind}
use Rattle.fours.specs.Fours.{four, no_entries, Holds}

abbrev pub four_of : ℕ → ℕ → ℕ → ℕ → Four
four_of a b c d = record { first = a; second = b; third = c; fourth = d }

-- the first n + 1 turned right
pub back_is : (e : Four) (n first : ℕ) → n < 4 → first ≡ negated (get_or (four e) n 0)
    → four (four_of first (cond (ltb 0 n) e.first e.second) (cond (ltb 1 n) e.second e.third) (cond (ltb 2 n) e.third e.fourth)) ≡ unturned n (four e)
unfolding unturned
back_is e zero f h q = ap (λ (x : ℕ). x ∷ e.second ∷ e.third ∷ e.fourth ∷ []) q
back_is e (suc zero) f h q = ap (λ (x : ℕ). x ∷ e.first ∷ e.third ∷ e.fourth ∷ []) q
back_is e (suc (suc zero)) f h q = ap (λ (x : ℕ). x ∷ e.first ∷ e.second ∷ e.fourth ∷ []) q
back_is e (suc (suc (suc zero))) f h q = ap (λ (x : ℕ). x ∷ e.first ∷ e.second ∷ e.third ∷ []) q
back_is e (suc (suc (suc (suc n)))) f h q = absurd (omega arith)

-- the first n + 1 turned left
pub on_is : (e : Four) (n m : ℕ) → n < 4 → m ≡ negated e.first
    → four (four_of (cond (eqb n 0) m e.second) (cond (eqb n 1) m (cond (ltb 1 n) e.third e.second))
    (cond (eqb n 2) m (cond (ltb 2 n) e.fourth e.third)) (cond (eqb n 3) m e.fourth)) ≡ turned (suc n) (four e)
unfolding turned
on_is e zero m h q = ap (λ (x : ℕ). x ∷ e.second ∷ e.third ∷ e.fourth ∷ []) q
on_is e (suc zero) m h q = ap (λ (x : ℕ). e.second ∷ x ∷ e.third ∷ e.fourth ∷ []) q
on_is e (suc (suc zero)) m h q = ap (λ (x : ℕ). e.second ∷ e.third ∷ x ∷ e.fourth ∷ []) q
on_is e (suc (suc (suc zero))) m h q = ap (λ (x : ℕ). e.second ∷ e.third ∷ e.fourth ∷ x ∷ []) q
on_is e (suc (suc (suc (suc n)))) m h q = absurd (omega arith)

-- the step to a child: the entries as they are for child 0, turned for child 1
pub step_is : (e t : Four) (n b : ℕ) → four t ≡ turned (suc n) (four e)
    → four (four_of (cond (eqb b 0) e.first t.first) (cond (eqb b 0) e.second t.second) (cond (eqb b 0) e.third t.third) (cond (eqb b 0) e.fourth t.fourth))
    ≡ stepped b (suc n) (four e)
unfolding stepped
step_is e t n zero q = refl
step_is e t n (suc b) q = rw (ne_eqb (suc b) 0 (λ z. absurd (omega arith))) q

-- the entries from a place on, read and written
start : (l : List ℕ) (d : ℕ) (e : Four) → 2 ≤ d → d ≤ 4 → d ≤ length l
    → (four (four_of (get_or l 0 0) (get_or l 1 0) (cond (ltb 2 d) (get_or l 2 0) 0) (cond (ltb 3 d) (get_or l 3 0) 0)) ≡ paste no_entries 0 l d)
    × (set (set (set (set l (place_in 3 d) e.fourth) (place_in 2 d) e.third) 1 e.second) 0 e.first ≡ take d (four e) ++ drop d l)
start (a ∷ b ∷ l) (suc (suc zero)) e two few r = (refl, refl)
start (a ∷ b ∷ c ∷ l) (suc (suc (suc zero))) e two few r = (refl, refl)
start (a ∷ b ∷ c ∷ f ∷ l) (suc (suc (suc (suc zero)))) e two few r = (refl, refl)
start [] d e two few r = absurd (omega arith)
start (a ∷ []) d e two few r = absurd (omega arith)
start (a ∷ (b ∷ l)) zero e two few r = absurd (omega arith)
start (a ∷ (b ∷ l)) (suc zero) e two few r = absurd (omega arith)
start (a ∷ (b ∷ [])) (suc (suc (suc d))) e two few r = absurd (omega arith)
start (a ∷ (b ∷ (c ∷ []))) (suc (suc (suc (suc d)))) e two few r = absurd (omega arith)
start (a ∷ (b ∷ (c ∷ (f ∷ l)))) (suc (suc (suc (suc (suc d))))) e two few r = absurd (omega arith)

module _ (l : List ℕ) (at d : ℕ) (two : 2 ≤ d) (few : d ≤ 4) (r : at + d ≤ length l) where
  enough : d ≤ length (drop at l)
  enough = rw (length-drop at l) (omega arith)

  here : at ≡ at + 0
  here = omega arith

  pub entries_are : four (four_of (get_or l at 0) (get_or l (at + 1) 0) (cond (ltb 2 d) (get_or l (at + 2) 0) 0) (cond (ltb 3 d) (get_or l (at + 3) 0) 0)) ≡ paste no_entries 0 (drop at l) d
  entries_are = rw (ap (λ (i : ℕ). get_or l i 0) here, ← get_or-drop at l 0 0, ← get_or-drop at l 1 0, ← get_or-drop at l 2 0, ← get_or-drop at l 3 0)
      (start (drop at l) d (four_of 0 0 0 0) two few enough).0

  module _ (e : Four) where
    w : List ℕ
    w = set (set (set (set l (at + place_in 3 d) e.fourth) (at + place_in 2 d) e.third) (at + 1) e.second) (at + 0) e.first

    before : take at w ≡ take at l
    unfolding w
    before = rw (
      take-set-le at (set (set (set l (at + place_in 3 d) e.fourth) (at + place_in 2 d) e.third) (at + 1) e.second) (at + 0) e.first (omega arith),
      take-set-le at (set (set l (at + place_in 3 d) e.fourth) (at + place_in 2 d) e.third) (at + 1) e.second (omega arith),
      take-set-le at (set l (at + place_in 3 d) e.fourth) (at + place_in 2 d) e.third (omega arith),
      take-set-le at l (at + place_in 3 d) e.fourth (omega arith),
    ) refl

    behind : drop at w ≡ take d (four e) ++ drop (at + d) l
    unfolding w
    behind = rw (
      drop-set-add at (set (set (set l (at + place_in 3 d) e.fourth) (at + place_in 2 d) e.third) (at + 1) e.second) 0 e.first,
      drop-set-add at (set (set l (at + place_in 3 d) e.fourth) (at + place_in 2 d) e.third) 1 e.second,
      drop-set-add at (set l (at + place_in 3 d) e.fourth) (place_in 2 d) e.third,
      drop-set-add at l (place_in 3 d) e.fourth,
    )
        ((start (drop at l) d e two few enough).1 ∙ ap (λ (m : List ℕ). take d (four e) ++ m) (drop-drop d at l))

    pub written_are : set (set (set (set l (at + place_in 3 d) e.fourth) (at + place_in 2 d) e.third) (at + 1) e.second) at e.first ≡ paste l at (four e) d
    unfolding w
    written_are = ap (λ (i : ℕ). set (set (set (set l (at + place_in 3 d) e.fourth) (at + place_in 2 d) e.third) (at + 1) e.second) i e.first) here
        ∙ sym (take-append-drop at w) ∙ rw (before, behind) (sym (append_assoc (take at l) (take d (four e)) (drop (at + d) l)))

-- entries that hold a signed permutation
module _ {d : ℕ} {e : Four} {es : List ℕ} (h : Holds d e es) where
  pub held_few : d ≤ 4
  held_few = omega (arith, ap length h.is, length-append es (drop d no_entries), length-drop d no_entries, h.signed.size)

  small : d < 128
  small = omega (arith, held_few)

  pub held_at : (n : ℕ) → n < d → get_or (four e) n 0 ≡ get_or es n 0
  held_at n l = ap (λ (l : List ℕ). get_or l n 0) h.is ∙ get_or-append es (drop d no_entries) 0 n (omega (arith, h.signed.size))

  pub held_axis : (n : ℕ) → n < d → 1 ≤ axis (get_or (four e) n 0)
  held_axis n l = rw (held_at n l) (h.signed.low n l)

  pub held_front : take d (four e) ≡ es
  held_front = ap (take d) h.is ∙ take_at es (drop d no_entries) d h.signed.size

  module _ (r : Four) (n : ℕ) (l : n < d) where
    room : n < length es
    room = omega (arith, h.signed.size)

    pub held_turned : four r ≡ turned (suc n) (four e) → Holds d r (turned (suc n) es)
    held_turned q = record { signed = signed_turned h.signed n l small; is = q ∙ ap (turned (suc n)) h.is ∙ turned_append (suc n) es (drop d no_entries) (omega arith) (omega (arith, room)) }

    pub held_unturned : four r ≡ unturned n (four e) → Holds d r (unturned n es)
    held_unturned q = record { signed = signed_unturned h.signed n l small; is = q ∙ ap (unturned n) h.is ∙ unturned_append n es (drop d no_entries) room }

    pub held_stepped : (b : ℕ) → four r ≡ stepped b (suc n) (four e) → Holds d r (stepped b (suc n) es)
    unfolding stepped
    held_stepped zero q = record { signed = h.signed; is = q ∙ h.is }
    held_stepped (suc b) q = held_turned q

  -- the same entries hold the same, and those of a code what it has
  pub held_same : {x : Four} {xs : List ℕ} → four x ≡ xs ++ drop d no_entries → length xs ≡ d → four x ≡ four e → xs ≡ es
  held_same {x} {xs} q size f = sym (take_at xs (drop d no_entries) d size) ∙ ap (take d) (sym q ∙ f) ∙ held_front

pub pasted : (l : List ℕ) (d : ℕ) → paste no_entries 0 l d ≡ take d l ++ drop d no_entries
pasted l d = ap (λ (n : ℕ). take d l ++ drop n no_entries) (zero-add d)

-- the entries that stand so are those of the list, with zeros behind them
module _ (l : List ℕ) {es : List ℕ} {d : ℕ} (few : d ≤ 4) (room : d ≤ length l) (e : es ≡ paste no_entries 0 l d) where
  front : length (take d l) ≡ d
  front = length-take-le d l room

  pub pasted_at : (i : ℕ) → i < d → get_or es i 0 ≡ get_or l i 0
  pasted_at i h = ap (λ (x : List ℕ). get_or x i 0) (e ∙ pasted l d) ∙ get_or-append (take d l) (drop d no_entries) 0 i (omega (arith, front)) ∙ get_or-take d l i 0 h

  pub pasted_none : NoneBehind d es
  pasted_none = record {
    none = λ m h. ap (λ (x : List ℕ). get_or x m 0) (e ∙ pasted l d) ∙ ap (λ (x : ℕ). get_or (take d l ++ drop d no_entries) x 0) (there m h)
        ∙ get_or-append-add (take d l) (drop d no_entries) (m - d) 0 ∙ get_or-drop d no_entries (m - d) 0 ∙ zeros (d + (m - d));
  }
    where
      there : (m : ℕ) → d ≤ m → m ≡ length (take d l) + (m - d)
      there m h = omega (arith, front)

      zeros : (m : ℕ) → get_or no_entries m 0 ≡ 0
      zeros zero = refl
      zeros (suc zero) = refl
      zeros (suc (suc zero)) = refl
      zeros (suc (suc (suc zero))) = refl
      zeros (suc (suc (suc (suc m)))) = refl
