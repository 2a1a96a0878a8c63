-- What a name (entries and orthants) must be to be a cell's at depth D, for every dimension d: the step rule
-- keeps it, and every such name but a root's is the step of exactly one, found by the sign of entry k.
use Rattle.std.specs.Prelude.{◌≡◌, Bool, not, eqb, get_or, take}
use Rattle.std.proofs.Math.Path.{refl}
use Rattle.std.proofs.Common.{sym, ap, ◌∙◌, subst, length-take, length-append, get_or-take, take-suc, take_all, take_at}
use Rattle.std.proofs.Math.Bool.{true, false, cond}
use mathlib.Core.List.{List, [], ◌∷◌, ◌++◌}
use Rattle.std.proofs.Math.Logic.{⊎_elim}
use Prim.Native.Nat.{ℕ, zero, suc, ◌^◌, ◌≤◌, ◌<◌}
use native.Mathlib.Omega.{arith}
use Rattle.std.proofs.Math.Decide.{dec_lt, ℕ_discrete}
use Rattle.std.proofs.Math.ListN.{get_or-append}
use Rattle.std.proofs.lemmas.List.{get_or_at}
use Rattle.dimension.specs.Sizes.{level, split_place, box_depth}
use Rattle.dimension.specs.Laws.{Within, Turned, deeper, split_range}
use Rattle.bisection.specs.Codes.{axis, minus, stepped, high, orthant, Name, step}
use Rattle.bisection.specs.Refusals.{own_minus, same_sign}
use Rattle.bisection.proofs.Theorems.Orthants.{orthant_to_fits, orthant_to_high, bits_same, own_snoc}
use Rattle.bisection.specs.Theorems.Entries.{Signed, Stands, unturned}
use Rattle.bisection.proofs.Theorems.Entries.{stands, minus_on_entry, axis_negated, minus_negated, turned_before, turned_at, unturned_moved, signed_turned, signed_unturned, turned_unturned, unturned_turned}
use Rattle.bisection.specs.Theorems.Passing.{Boxes, Own, Passes, fewer, last_step, parent_name, split_entry, unstepped}

-- the orthant of a signed permutation
module _ {d : ℕ} {es : List ℕ} (s : Signed d es) where
  pub orthant_fits : orthant es < 2 ^ d
  unfolding orthant
  orthant_fits = rw s.size (orthant_to_fits d es)

  pub orthant_high : (i : ℕ) → i < d → high (orthant es) (axis (get_or es i 0)) ≡ minus (get_or es i 0)
  unfolding orthant
  orthant_high i l = rw s.size (orthant_to_high d es (axis (get_or es i 0)) (s.low i l) (s.high i l)) ∙ minus_on_entry s i l

  -- the one byte without a bit at d or above whose highs are the minuses
  pub orthant_only : (o : ℕ) → o < 2 ^ d → ((i : ℕ) → i < d → minus (get_or es i 0) ≡ high o (axis (get_or es i 0))) → o ≡ orthant es
  orthant_only o h e = bits_same d o (orthant es) h orthant_fits (λ a l m. at (stands s a l m))
    where
      at : {a : ℕ} → Stands es a d → high o a ≡ high (orthant es) a
      at t = subst (λ (a : ℕ). high o a ≡ high (orthant es) a) t.is (sym (e t.place t.below) ∙ sym (orthant_high t.place t.below))

-- orthant lists, one longer
pub boxes_more : {d L : ℕ} {os : List ℕ} → Boxes d L os → (o : ℕ) → o < 2 ^ d → Boxes d (suc L) (os ++ o ∷ [])
boxes_more {d} {L} {os} b o h = record { count = simp length-append (omega (arith, b.count)); fit = λ t l. go t (dec_lt t L) l }
  where
    go : (t : ℕ) → Dec (t < L) → t < suc L → get_or (os ++ o ∷ []) t 0 < 2 ^ d
    go t (yes q) l = rw (get_or-append os (o ∷ []) 0 t (omega (arith, b.count))) (b.fit t q)
    go t (no q) l = rw (get_or_at os o [] 0 t (omega (arith, b.count))) h

pub boxes_less : {d L : ℕ} {os : List ℕ} → Boxes d (suc L) os → Boxes d L (take L os)
boxes_less {d} {L} {os} b = record { count = simp length-take (omega (arith, b.count)); fit = λ t l. rw (get_or-take L os t 0 l) (b.fit t (omega arith)) }

pub boxes_last : {d L : ℕ} {os : List ℕ} → Boxes d (suc L) os → os ≡ take L os ++ get_or os L 0 ∷ []
boxes_last {d} {L} {os} b = sym (take_all (suc L) os (omega (arith, b.count))) ∙ take-suc os L 0 (omega (arith, b.count))

-- the step on entries, k = n + 1
module _ {d : ℕ} {es : List ℕ} (s : Signed d es) (n : ℕ) (h : n < d) (small : d < 128) where
  pub signed_stepped : (b : ℕ) → Signed d (stepped b (suc n) es)
  unfolding stepped
  signed_stepped zero = s
  signed_stepped (suc b) = signed_turned s n h small

  pub own_stepped : (os : List ℕ) → Own (suc n) es os → (b : ℕ) → Own n (stepped b (suc n) es) os
  unfolding stepped
  own_stepped os o zero = record { sign = λ i l. o.sign i (omega arith) }
  own_stepped os o (suc b) = record { sign = λ i l. rw (turned_before n es (omega (arith, s.size)) i l) (o.sign (suc i) (omega arith)) }

-- a new box has the signs of the permutation that made it
pub own_new : {d : ℕ} {es : List ℕ} → Signed d es → (os : List ℕ) → Own d es (os ++ orthant es ∷ [])
own_new {d} {es} s os = record { sign = λ i l. sym (own_snoc os (orthant es) (axis (get_or es i 0)) ∙ orthant_high s i l) }

name_same : {m n : Name} → m.entries ≡ n.entries → m.orthants ≡ n.orthants → m ≡ n
name_same p q = λ i. record { entries = p i; orthants = q i }

same_own : (t : Bool) → same_sign t t ≡ true
same_own true = refl
same_own false = refl

same_against : (t : Bool) → same_sign (not t) t ≡ false
same_against true = refl
same_against false = refl

pub same_true : (t u : Bool) → same_sign t u ≡ true → t ≡ u
same_true true u e = sym e
same_true false true e = e
same_true false false e = refl

same_false : (t u : Bool) → same_sign t u ≡ false → not t ≡ u
same_false true true e = sym e
same_false true false e = refl
same_false false true e = refl
same_false false false e = e

pub same_is : (t u : Bool) → t ≡ u → same_sign t u ≡ true
same_is t u e = rw e (same_own u)

module _ (d D : ℕ) (d0 : 0 < d) (small : d < 128) where
  n : ℕ
  n = split_entry d D

  split_suc : split_place d D ≡ suc n
  unfolding n
  split_suc = omega (arith, (split_range d D d0).0)

  n_in : n < d
  unfolding n
  n_in = omega (arith, split_range d D d0)

  pub step_passes : (m : Name) → Passes d D m → (b : ℕ) → Passes d (suc D) (step d D b m)
  unfolding step
  step_passes m p b = ⊎_elim within turn (deeper d D d0)
    where
      es : List ℕ
      es = stepped b (split_place d D) m.entries

      signed : Signed d es
      signed = rw split_suc (signed_stepped p.signed n n_in small b)

      own : Own n es m.orthants
      own = rw split_suc (own_stepped p.signed n n_in small m.orthants (rw split_suc at p.own) b)

      within : Within d D → Passes d (suc D) (step d D b m)
      within w = record {
        signed = signed;
        boxes = rw (w.level, w.box) p.boxes;
        own = rw w.level (subst (λ (k : ℕ). Own k es m.orthants) (omega (arith, w.split, split_suc)) own);
      }

      turn : Turned d D → Passes d (suc D) (step d D b m)
      turn w = record {
        signed = signed;
        boxes = rw (w.level, w.box) (boxes_more p.boxes (orthant es) (orthant_fits signed));
        own = rw (w.level, w.split) (own_new signed m.orthants);
      }

  -- a step is undone by the parent
  fewer_step : (m : Name) → Passes d D m → (b : ℕ) → fewer d D (step d D b m).orthants ≡ m.orthants
  unfolding step fewer
  fewer_step m p b = ⊎_elim within turn (deeper d D d0)
    where
      within : Within d D → fewer d D (step d D b m).orthants ≡ m.orthants
      within w = rw w.level (take_all (box_depth d D) m.orthants (omega (arith, p.boxes.count)))

      turn : Turned d D → fewer d D (step d D b m).orthants ≡ m.orthants
      turn w = rw w.level (take_at m.orthants (orthant (stepped b (split_place d D) m.entries) ∷ []) (box_depth d D) p.boxes.count)

  stepped_sign : (m : Name) → Passes d D m → (b : ℕ) → b ≤ 1
      → cond (same_sign (minus (get_or (stepped b (suc n) m.entries) n 0)) (own_minus m.orthants (axis (get_or (stepped b (suc n) m.entries) n 0)))) 0 1 ≡ b
  unfolding stepped
  stepped_sign m p zero h = rw (same_is (minus (get_or m.entries n 0)) (own_minus m.orthants (axis (get_or m.entries n 0))) (p.own.sign n (omega (arith, split_suc)))) refl
  stepped_sign m p (suc zero) h = rw (
    turned_at n m.entries (omega (arith, p.signed.size, n_in)) n refl,
    axis_negated (get_or m.entries 0 0) low,
    minus_negated (get_or m.entries 0 0) low,
    p.own.sign 0 (omega (arith, split_suc)),
    same_against (own_minus m.orthants (axis (get_or m.entries 0 0))),
  ) refl
    where
      low : axis (get_or m.entries 0 0) < 128
      low = omega (arith, p.signed.high 0 d0)
  stepped_sign m p (suc (suc b)) h = absurd (omega arith)

  step_sign : (m : Name) → Passes d D m → (b : ℕ) → b ≤ 1
      → cond (same_sign (minus (get_or (step d D b m).entries n 0)) (own_minus m.orthants (axis (get_or (step d D b m).entries n 0)))) 0 1 ≡ b
  unfolding step
  step_sign m p b h = rw split_suc (stepped_sign m p b h)

  pub last_step_is : (m : Name) → Passes d D m → (b : ℕ) → b ≤ 1 → last_step d D (step d D b m) ≡ b
  unfolding last_step n
  last_step_is m p b h = rw (fewer_step m p b) (step_sign m p b h)

  unstepped_stepped : (es : List ℕ) → Signed d es → (b : ℕ) → unstepped b n (stepped b (suc n) es) ≡ es
  unfolding unstepped stepped
  unstepped_stepped es s zero = refl
  unstepped_stepped es s (suc b) = unturned_turned s n n_in small

  unstepped_step : (m : Name) → Passes d D m → (b : ℕ) → unstepped b n (step d D b m).entries ≡ m.entries
  unfolding step
  unstepped_step m p b = rw split_suc (unstepped_stepped m.entries p.signed b)

  pub parent_step : (m : Name) → Passes d D m → (b : ℕ) → b ≤ 1 → parent_name d D (step d D b m) ≡ m
  unfolding parent_name n
  parent_step m p b h = name_same (rw (last_step_is m p b h) (unstepped_step m p b)) (fewer_step m p b)

-- the parent passes, and its step is the name
module _ (d D : ℕ) (d0 : 0 < d) (small : d < 128) (m : Name) (p : Passes d (suc D) m) where
  es : List ℕ
  es = m.entries

  os : List ℕ
  os = fewer d D m.orthants

  k : ℕ
  k = split_entry d D

  k_in : k < d
  unfolding k
  k_in = omega (arith, split_range d D d0)

  k_suc : split_place d D ≡ suc k
  unfolding k
  k_suc = omega (arith, (split_range d D d0).0)

  fewer_boxes : Boxes d (box_depth d D) os
  unfolding os fewer
  fewer_boxes = ⊎_elim
      (λ (w : Within d D). rw (take_all (box_depth d D) m.orthants (omega (arith, p.boxes.count, w.box))) (rw w.box at p.boxes))
      (λ (w : Turned d D). boxes_less (rw w.box at p.boxes)) (deeper d D d0)

  own_before : Own k es os
  unfolding os fewer es k
  own_before = ⊎_elim
      (λ (w : Within d D). rw (take_all (box_depth d D) m.orthants (omega (arith, p.boxes.count, w.box))) (subst (λ (j : ℕ). Own j m.entries m.orthants) (omega (arith, w.split)) p.own))
      (λ (w : Turned d D). record { sign = λ i l. absurd (omega (arith, w.last)) }) (deeper d D d0)

  Undone : Type 0
  Undone = Signed d (unstepped (last_step d D m) k es) × Own (suc k) (unstepped (last_step d D m) k es) os × (stepped (last_step d D m) (suc k) (unstepped (last_step d D m) k es) ≡ es)

  undone : Undone
  unfolding Undone last_step unstepped stepped es os k
  undone = go (same_sign (minus (get_or m.entries k 0)) (own_minus os (axis (get_or m.entries k 0)))) refl
    where
      low : axis (get_or es k 0) < 128
      low = omega (arith, p.signed.high k k_in)

      Goal : Bool → Type 0
      Goal t = Signed d (unstepped (cond t 0 1) k es) × Own (suc k) (unstepped (cond t 0 1) k es) os × (stepped (cond t 0 1) (suc k) (unstepped (cond t 0 1) k es) ≡ es)

      go : (t : Bool) → same_sign (minus (get_or es k 0)) (own_minus os (axis (get_or es k 0))) ≡ t → Goal t
      go true e = (p.signed, record { sign = λ i l. sign i l (ℕ_discrete i k) }, refl)
        where
          sign : (i : ℕ) → i < suc k → Dec (i ≡ k) → minus (get_or es i 0) ≡ own_minus os (axis (get_or es i 0))
          sign i l (yes q) = rw q (same_true (minus (get_or es k 0)) (own_minus os (axis (get_or es k 0))) e)
          sign i l (no q) = own_before.sign i (omega arith)
      go false e = (signed_unturned p.signed k k_in small, record { sign = sign }, turned_unturned p.signed k k_in small)
        where
          sign : (i : ℕ) → i < suc k → minus (get_or (unturned k es) i 0) ≡ own_minus os (axis (get_or (unturned k es) i 0))
          sign zero l = unfold unturned in rw (minus_negated (get_or es k 0) low, axis_negated (get_or es k 0) low) (same_false (minus (get_or es k 0)) (own_minus os (axis (get_or es k 0))) e)
          sign (suc i) l = rw (unturned_moved k es (omega (arith, p.signed.size, k_in)) i (omega arith)) (own_before.sign i (omega arith))

  own_undone : Own (split_place d D) (unstepped (last_step d D m) k es) os
  unfolding Undone
  own_undone = rw k_suc undone.1

  pub parent_passes : Passes d D (parent_name d D m)
  unfolding parent_name Undone k es os
  parent_passes = record { signed = undone.0; boxes = fewer_boxes; own = own_undone }

  -- the orthants again
  orthants_again : cond (eqb (level d (suc D)) 0) (os ++ orthant es ∷ []) os ≡ m.orthants
  unfolding os fewer es
  orthants_again = ⊎_elim within turn (deeper d D d0)
    where
      within : Within d D → cond (eqb (level d (suc D)) 0) (os ++ orthant es ∷ []) os ≡ m.orthants
      within w = rw w.level (take_all (box_depth d D) m.orthants (omega (arith, p.boxes.count, w.box)))

      turn : Turned d D → cond (eqb (level d (suc D)) 0) (os ++ orthant es ∷ []) os ≡ m.orthants
      turn w = rw w.level (ap (λ (o : ℕ). take (box_depth d D) m.orthants ++ o ∷ []) (sym only) ∙ sym last)
        where
          b : Boxes d (suc (box_depth d D)) m.orthants
          b = rw w.box at p.boxes

          last : m.orthants ≡ take (box_depth d D) m.orthants ++ get_or m.orthants (box_depth d D) 0 ∷ []
          last = boxes_last b

          only : get_or m.orthants (box_depth d D) 0 ≡ orthant m.entries
          only = orthant_only p.signed (get_or m.orthants (box_depth d D) 0) (b.fit (box_depth d D) (omega arith))
              (λ i l. p.own.sign i (rw w.split l) ∙ ap (λ (l : List ℕ). own_minus l (axis (get_or m.entries i 0))) last ∙ own_snoc (take (box_depth d D) m.orthants) (get_or m.orthants (box_depth d D) 0) (axis (get_or m.entries i 0)))

  entries_again : stepped (last_step d D m) (split_place d D) (unstepped (last_step d D m) k es) ≡ es
  unfolding Undone
  entries_again = rw k_suc undone.2

  pub step_parent : step d D (last_step d D m) (parent_name d D m) ≡ m
  unfolding step parent_name k es os
  step_parent = name_same entries_again (rw entries_again orthants_again)

  pub last_small : last_step d D m ≤ 1
  unfolding last_step
  last_small = go (same_sign (minus (get_or m.entries (split_entry d D) 0)) (own_minus (fewer d D m.orthants) (axis (get_or m.entries (split_entry d D) 0))))
    where
      go : (t : Bool) → cond t 0 1 ≤ 1
      go true = omega arith
      go false = omega arith
