-- Signed permutations: an entry's axis and sign, the turn of child 1, and its way back. A turn takes every
-- entry from one place, so it keeps a signed permutation one.
use Rattle.std.specs.Prelude.{◌≡◌, Bool, true, false, cond, not, List, [], ◌∷◌, ◌++◌, leb, take}
use Rattle.std.proofs.Math.Path.{refl, ap, subst}
use Rattle.std.proofs.Common.{sym, ◌∙◌, append_assoc, length-take, length-append, get_or-append-add}
use Prim.Native.Nat.{ℕ, zero, suc, ◌+◌, ◌-◌, ◌≤◌, ◌<◌}
use native.Mathlib.Omega.{arith}
use Rattle.std.proofs.Math.Decide.{dec_lt, dec_le}
use Rattle.std.proofs.Math.ListN.{length, get_or, drop, length-drop, get_or-append}
use Rattle.std.proofs.Math.Seq.{get_or-take, get_or-drop, ext_get_or}
use Rattle.std.proofs.lemmas.List.{take-append-le, drop-append-le}
use borrow.Author.Tests.{lt-ltb, le-ltb, le-leb, lt-leb, eq-eqb, ne_eqb, leb-true}
use Rattle.bisection.specs.Codes.{axis, minus, negated, turned, minus_on}
use Rattle.bisection.specs.Theorems.Lists.{shifted}
use Rattle.bisection.proofs.Theorems.Lists.{shifted_before, shifted_at, shifted_past, shifted_length}
use Rattle.bisection.specs.Theorems.Axis.{Order, under, same, over}
use Rattle.bisection.proofs.Theorems.Axis.{order}
use Rattle.bisection.specs.Theorems.Onto.{Taken}
use Rattle.bisection.proofs.Theorems.Onto.{onto}
use Rattle.bisection.specs.Theorems.Entries.{Signed, Stands, source, target, unturned}

-- an entry's sign and axis under a negation; an axis has fewer than 128 choices
pub axis_negated : (e : ℕ) → axis e < 128 → axis (negated e) ≡ axis e
unfolding axis negated minus
axis_negated e h = go (dec_le 128 e) h
  where
    go : Dec (128 ≤ e) → cond (leb 128 e) (e - 128) e < 128 → cond (leb 128 (cond (leb 128 e) (e - 128) (e + 128))) (cond (leb 128 e) (e - 128) (e + 128) - 128) (cond (leb 128 e) (e - 128) (e + 128)) ≡ cond (leb 128 e) (e - 128) e
    go (yes l) q = let t : e - 128 < 128 = simp le-leb at q in simp (le-leb 128 e l, lt-leb)
    go (no l) q = let t : e < 128 = omega arith in let u : 128 ≤ e + 128 = omega arith in simp (lt-leb 128 e t, le-leb 128 (e + 128) u) (omega arith)

pub minus_negated : (e : ℕ) → axis e < 128 → minus (negated e) ≡ not (minus e)
unfolding axis negated minus
minus_negated e h = go (dec_le 128 e) h
  where
    go : Dec (128 ≤ e) → cond (leb 128 e) (e - 128) e < 128 → leb 128 (cond (leb 128 e) (e - 128) (e + 128)) ≡ not (leb 128 e)
    go (yes l) q = let t : e - 128 < 128 = simp le-leb at q in simp (le-leb 128 e l, lt-leb)
    go (no l) q = let t : e < 128 = omega arith in let u : 128 ≤ e + 128 = omega arith in simp (lt-leb 128 e t, le-leb 128 (e + 128) u)

-- an entry is known by its axis and sign
pub entry_same : (e f : ℕ) → axis e ≡ axis f → minus e ≡ minus f → e ≡ f
unfolding axis minus
entry_same e f p q = go (dec_le 128 e) (dec_le 128 f) p
  where
    go : Dec (128 ≤ e) → Dec (128 ≤ f) → cond (leb 128 e) (e - 128) e ≡ cond (leb 128 f) (f - 128) f → e ≡ f
    go (yes l) (yes m) r = omega (arith, simp (le-leb 128 e l, le-leb 128 f m) at r)
    go (yes l) (no m) r = absurd (m (leb-true 128 f (sym q ∙ le-leb 128 e l)))
    go (no l) (yes m) r = absurd (l (leb-true 128 e (q ∙ le-leb 128 f m)))
    go (no l) (no m) r = let s : e < 128 = omega arith in let t : f < 128 = omega arith in simp (lt-leb 128 e s, lt-leb 128 f t) at r

not_not : (n : Bool) → not (not n) ≡ n
not_not true = refl
not_not false = refl

pub negated_negated : (e : ℕ) → axis e < 128 → negated (negated e) ≡ e
negated_negated e h = entry_same (negated (negated e)) e (axis_negated (negated e) h' ∙ axis_negated e h) (minus_negated (negated e) h' ∙ ap not (minus_negated e h) ∙ not_not (minus e))
  where
    h' : axis (negated e) < 128
    h' = rw (axis_negated e h) h

pub stands : {d : ℕ} {es : List ℕ} → Signed d es → (a : ℕ) → 1 ≤ a → a ≤ d → Stands es a d
stands {d} {es} s a h l = record { place = t.place; below = t.below; is = omega (arith, t.is, s.low t.place t.below) }
  where
    f : ℕ → ℕ
    f i = axis (get_or es i 0) - 1

    t : Taken f (a - 1) d
    t = onto d f (λ i q. omega (arith, s.low i q, s.high i q)) (λ i j q r e. s.apart i j q r (omega (arith, e, s.low i q, s.low j r))) (a - 1) (omega arith)

-- the sign that the permutation has on an entry's axis is the entry's
minus_on_first : (es : List ℕ) (i : ℕ) → i < length es → ((j : ℕ) → j < i → axis (get_or es j 0) ≡ axis (get_or es i 0) → ⊥) → minus_on es (axis (get_or es i 0)) ≡ minus (get_or es i 0)
unfolding minus_on
minus_on_first [] i h n = absurd (omega arith)
minus_on_first (e ∷ es) zero h n = rw (eq-eqb (axis e) (axis e) refl)
minus_on_first (e ∷ es) (suc i) h n = rw (ne_eqb (axis e) (axis (get_or es i 0)) (n 0 (omega arith))) (minus_on_first es i (omega arith) (λ j q. n (suc j) (omega arith)))

pub minus_on_entry : {d : ℕ} {es : List ℕ} → Signed d es → (i : ℕ) → i < d → minus_on es (axis (get_or es i 0)) ≡ minus (get_or es i 0)
minus_on_entry {d} {es} s i h = minus_on_first es i (omega (arith, s.size)) (λ j q e. omega (arith, s.apart j i (omega arith) h e))

-- child 1 with k = n + 1: entries 1..n move one place forward, the first goes to place n
pub turned_shifted : (n : ℕ) (es : List ℕ) → turned (suc n) es ≡ shifted n (negated (get_or es 0 0)) es
unfolding turned shifted
turned_shifted n es = let e : suc n - 1 ≡ n = omega arith in rw e

module _ (n : ℕ) (es : List ℕ) (h : n < length es) where
  pub turned_before : (i : ℕ) → i < n → get_or (turned (suc n) es) i 0 ≡ get_or es (suc i) 0
  turned_before i q = rw (turned_shifted n es) (shifted_before 0 n (negated (get_or es 0 0)) es h i q)

  pub turned_at : (i : ℕ) → i ≡ n → get_or (turned (suc n) es) i 0 ≡ negated (get_or es 0 0)
  turned_at i q = rw (turned_shifted n es) (shifted_at 0 n (negated (get_or es 0 0)) es h i q)

  pub turned_past : (i : ℕ) → n < i → get_or (turned (suc n) es) i 0 ≡ get_or es i 0
  turned_past i q = rw (turned_shifted n es) (shifted_past 0 n (negated (get_or es 0 0)) es h i q)

  pub turned_length : length (turned (suc n) es) ≡ length es
  turned_length = rw (turned_shifted n es) (shifted_length 0 n (negated (get_or es 0 0)) es h)

module _ (n : ℕ) (es : List ℕ) (h : n < length es) where
  front_length_is : length (take n es) ≡ n
  front_length_is = simp length-take (omega arith)

  pub unturned_moved : (i : ℕ) → i < n → get_or (unturned n es) (suc i) 0 ≡ get_or es i 0
  unfolding unturned
  unturned_moved i q = let f : i < length (take n es) = rw front_length_is q in get_or-append (take n es) (drop (suc n) es) 0 i f ∙ get_or-take n es i 0 q

  pub unturned_past : (i : ℕ) → n < i → get_or (unturned n es) i 0 ≡ get_or es i 0
  unfolding unturned
  unturned_past zero q = absurd (omega arith)
  unturned_past (suc i) q = subst (λ (m : ℕ). get_or (take n es ++ drop (suc n) es) m 0 ≡ get_or es (suc m) 0) e
      (subst (λ (m : ℕ). get_or (take n es ++ drop (suc n) es) m 0 ≡ get_or es (suc n + (i - n)) 0) f (get_or-append-add (take n es) (drop (suc n) es) (i - n) 0 ∙ get_or-drop (suc n) es (i - n) 0) ∙ ap (λ (m : ℕ). get_or es m 0) (omega arith))
    where
      e : n + (i - n) ≡ i
      e = omega arith

      f : length (take n es) + (i - n) ≡ n + (i - n)
      f = omega (arith, front_length_is)

  pub unturned_length : length (unturned n es) ≡ length es
  unfolding unturned
  unturned_length = simp (length-append, length-drop, front_length_is) (omega arith)

-- a turn of the first entries goes no further, and neither does the way back
pub turned_append : (k : ℕ) (es rest : List ℕ) → 1 ≤ k → k ≤ length es → turned k (es ++ rest) ≡ turned k es ++ rest
unfolding turned
turned_append k [] rest h l = absurd (omega arith)
turned_append k (e ∷ es) rest h l = rw (take-append-le (k - 1) es rest (omega arith), drop-append-le k (e ∷ es) rest l) (sym (append_assoc (take (k - 1) es) (negated e ∷ drop k (e ∷ es)) rest))

pub unturned_append : (n : ℕ) (es rest : List ℕ) → n < length es → unturned n (es ++ rest) ≡ unturned n es ++ rest
unfolding unturned
unturned_append n es rest h = rw (get_or-append es rest 0 n h, take-append-le n es rest (omega arith), drop-append-le (suc n) es rest h) (ap (λ (l : List ℕ). negated (get_or es n 0) ∷ l) (sym (append_assoc (take n es) (drop (suc n) es) rest)))

module _ (n i : ℕ) where
  source_before : i < n → source n i ≡ suc i
  unfolding source
  source_before h = simp lt-ltb

  source_at : i ≡ n → source n i ≡ 0
  unfolding source
  source_at e = let h : n ≤ i = omega arith in simp (le-ltb, eq-eqb)

  source_past : n < i → source n i ≡ i
  unfolding source
  source_past h = let l : n ≤ i = omega arith in let e : i ≡ n → ⊥ = omega arith in simp (le-ltb, ne_eqb)

  target_before : i < n → target n (suc i) ≡ i
  unfolding target
  target_before h = simp lt-ltb

  target_past : n ≤ i → target n (suc i) ≡ suc i
  unfolding target
  target_past h = simp le-ltb

target_first : (n : ℕ) → target n 0 ≡ n
unfolding target
target_first n = refl

target_source : (n i : ℕ) → target n (source n i) ≡ i
target_source n i = go (order i n)
  where
    past : (i : ℕ) → n < i → target n i ≡ i
    past zero h = absurd (omega arith)
    past (suc i) h = target_past n i (omega arith)

    go : Order i n → target n (source n i) ≡ i
    go (under h) = rw (source_before n i h) (target_before n i h)
    go (same e) = rw (source_at n i e) (target_first n ∙ sym e)
    go (over h) = rw (source_past n i h) (past i h)

source_target : (n i : ℕ) → source n (target n i) ≡ i
source_target n zero = rw (target_first n) (source_at n n refl)
source_target n (suc i) = go (dec_lt i n)
  where
    go : Dec (i < n) → source n (target n (suc i)) ≡ suc i
    go (yes h) = rw (target_before n i h) (source_before n i h)
    go (no h) = let l : n ≤ i = omega arith in rw (target_past n i l) (source_past n (suc i) (omega arith))

module _ (n d : ℕ) (h : n < d) (i : ℕ) (l : i < d) where
  source_in : source n i < d
  source_in = go (order i n)
    where
      go : Order i n → source n i < d
      go (under q) = rw (source_before n i q) (omega arith)
      go (same q) = rw (source_at n i q) (omega arith)
      go (over q) = rw (source_past n i q) l

  target_in : target n i < d
  target_in = go i l
    where
      go : (i : ℕ) → i < d → target n i < d
      go zero l = rw (target_first n) h
      go (suc i) l = pick (dec_lt i n)
        where
          pick : Dec (i < n) → target n (suc i) < d
          pick (yes q) = rw (target_before n i q) (omega arith)
          pick (no q) = let r : n ≤ i = omega arith in rw (target_past n i r) l

-- a list whose axes are those of a signed permutation, taken from other places
pub signed_along : {d : ℕ} {es : List ℕ} → Signed d es → (fs : List ℕ) → length fs ≡ d → (from back : ℕ → ℕ)
    → ((i : ℕ) → i < d → from i < d) → ((i : ℕ) → i < d → back (from i) ≡ i) → ((i : ℕ) → i < d → axis (get_or fs i 0) ≡ axis (get_or es (from i) 0)) → Signed d fs
signed_along s fs size from back inside again is = record {
  size = size;
  low = λ i l. rw (is i l) (s.low (from i) (inside i l));
  high = λ i l. rw (is i l) (s.high (from i) (inside i l));
  apart = λ i j l m e. sym (again i l) ∙ ap back (s.apart (from i) (from j) (inside i l) (inside j m) (sym (is i l) ∙ e ∙ is j m)) ∙ again j m;
}

module _ {d : ℕ} {es : List ℕ} (s : Signed d es) (n : ℕ) (h : n < d) (small : d < 128) where
  room : n < length es
  room = omega (arith, s.size)

  pub axis_small : (i : ℕ) → i < d → axis (get_or es i 0) < 128
  axis_small i l = omega (arith, s.high i l)

  pub turned_axis : (i : ℕ) → axis (get_or (turned (suc n) es) i 0) ≡ axis (get_or es (source n i) 0)
  turned_axis i = go (order i n)
    where
      go : Order i n → axis (get_or (turned (suc n) es) i 0) ≡ axis (get_or es (source n i) 0)
      go (under q) = rw (source_before n i q, turned_before n es room i q) refl
      go (same q) = rw (source_at n i q, turned_at n es room i q) (axis_negated (get_or es 0 0) (axis_small 0 (omega arith)))
      go (over q) = rw (source_past n i q, turned_past n es room i q) refl

  unturned_axis : (i : ℕ) → axis (get_or (unturned n es) i 0) ≡ axis (get_or es (target n i) 0)
  unfolding unturned
  unturned_axis zero = rw (target_first n) (axis_negated (get_or es n 0) (axis_small n h))
  unturned_axis (suc i) = go (dec_lt i n)
    where
      go : Dec (i < n) → axis (get_or (unturned n es) (suc i) 0) ≡ axis (get_or es (target n (suc i)) 0)
      go (yes q) = rw (target_before n i q, unturned_moved n es room i q) refl
      go (no q) = let r : n ≤ i = omega arith in rw (target_past n i r, unturned_past n es room (suc i) (omega arith)) refl

  pub signed_turned : Signed d (turned (suc n) es)
  signed_turned = signed_along s (turned (suc n) es) (turned_length n es room ∙ s.size) (source n) (target n) (source_in n d h) (λ i l. target_source n i) (λ i l. turned_axis i)

  pub signed_unturned : Signed d (unturned n es)
  signed_unturned = signed_along s (unturned n es) (unturned_length n es room ∙ s.size) (target n) (source n) (target_in n d h) (λ i l. source_target n i) (λ i l. unturned_axis i)

  back_room : n < length (unturned n es)
  back_room = rw (unturned_length n es room) room

  pub turned_unturned : turned (suc n) (unturned n es) ≡ es
  unfolding unturned
  turned_unturned = ext_get_or 0 (turned (suc n) (unturned n es)) es (turned_length n (unturned n es) back_room ∙ unturned_length n es room) (λ i l. go i (order i n))
    where
      go : (i : ℕ) → Order i n → get_or (turned (suc n) (unturned n es)) i 0 ≡ get_or es i 0
      go i (under q) = turned_before n (unturned n es) back_room i q ∙ unturned_moved n es room i q
      go i (same q) = turned_at n (unturned n es) back_room i q ∙ first ∙ ap (λ (m : ℕ). get_or es m 0) (sym q)
        where
          first : negated (get_or (unturned n es) 0 0) ≡ get_or es n 0
          first = negated_negated (get_or es n 0) (axis_small n h)
      go i (over q) = turned_past n (unturned n es) back_room i q ∙ unturned_past n es room i q

  turn_room : n < length (turned (suc n) es)
  turn_room = rw (turned_length n es room) room

  pub unturned_turned : unturned n (turned (suc n) es) ≡ es
  unfolding unturned
  unturned_turned = ext_get_or 0 (unturned n (turned (suc n) es)) es (unturned_length n (turned (suc n) es) turn_room ∙ turned_length n es room) (λ i l. go i)
    where
      go : (i : ℕ) → get_or (unturned n (turned (suc n) es)) i 0 ≡ get_or es i 0
      go zero = ap negated (turned_at n es room n refl) ∙ negated_negated (get_or es 0 0) (axis_small 0 (omega arith))
      go (suc i) = pick (dec_lt i n)
        where
          pick : Dec (i < n) → get_or (unturned n (turned (suc n) es)) (suc i) 0 ≡ get_or es (suc i) 0
          pick (yes q) = unturned_moved n (turned (suc n) es) turn_room i q ∙ turned_before n es room i q
          pick (no q) = let r : n < suc i = omega arith in unturned_past n (turned (suc n) es) turn_room (suc i) r ∙ turned_past n es room (suc i) r
