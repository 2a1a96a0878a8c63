-- One step on codes in buffers, as lists: the orthant put behind the others, entries written over others, and the step that
-- entries tell.
use Rattle.std.specs.Prelude.{◌≡◌, refl, cond, List, [], ◌∷◌, ◌++◌, ◌⊎◌, eqb, get_or, take, drop, set}
use Rattle.std.proofs.Common.{sym, ap, ◌∙◌, append_assoc, inl, inr, arith, length-append, drop_at, drop-cons}
use Prim.Native.Nat.{ℕ, suc, ◌+◌, ◌≤◌, ◌<◌}
use Rattle.std.proofs.Math.ListN.{length}
use Rattle.std.proofs.Math.Seq.{paste, append_snoc}
use Rattle.std.proofs.lemmas.List.{set_at}
use Rattle.dimension.specs.Sizes.{code_length, split_place, box_depth, level}
use Rattle.dimension.specs.Laws.{Within, Turned, deeper}
use Rattle.bisection.specs.Codes.{orthant}
use Rattle.fours.specs.declared.Four.{Four}
use Rattle.fours.specs.Fours.{Holds, OwnIs}

pub record RoomForBox (k at : ℕ) (l : List ℕ) : Type 0 where
  pub room : k ≡ 1 → at < length l

-- where k is 1 the orthant of what the entries hold is put at a place, and the next one goes behind it
pub record BoxPut (e : Four) (k at : ℕ) (l l' : List ℕ) (r : ℕ) : Type 0 where
  pub kept : (k ≡ 1 → ⊥) → (l' ≡ l) × (r ≡ at)
  pub next : k ≡ 1 → r ≡ at + 1
  pub put : k ≡ 1 → (d : ℕ) (es : List ℕ) → Holds d e es → l' ≡ set l at (orthant es)

pub box_kept : {e : Four} {k at : ℕ} {l : List ℕ} → (k ≡ 1 → ⊥) → BoxPut e k at l l at
box_kept n = record { kept = λ z. (refl, refl); next = λ q. absurd (n q); put = λ q. absurd (n q) }

pub box_put : {e : Four} {k at o : ℕ} {l : List ℕ} → k ≡ 1 → OwnIs e o → BoxPut e k at l (set l at o) (at + 1)
box_put {at = at} {l = l} q w = record { kept = λ n. absurd (n q); next = λ z. refl; put = λ z d es h. ap (λ (x : ℕ). set l at x) (w.own d es h) }

-- at depth D, where the next box goes to the code's end
module _ (d D : ℕ) {k at : ℕ} (d0 : 0 < d) (p : k ≡ split_place d D) (a : at ≡ code_length d D) where
  pub box_room : {l : List ℕ} → code_length d (suc D) ≤ length l → RoomForBox k at l
  unfolding code_length
  box_room {l} h = record { room = λ q. go q (deeper d D d0) }
    where
      go : k ≡ 1 → Within d D ⊎ Turned d D → at < length l
      go q (inl w) = absurd (omega (arith, w.room))
      go q (inr w) = omega (arith, w.box)

  module _ {e : Four} {r : ℕ} {l l' : List ℕ} (b : BoxPut e k at l l' r) where
    not_last : Within d D → k ≡ 1 → ⊥
    not_last w q = omega (arith, w.room)

    pub box_next : r ≡ code_length d (suc D)
    unfolding code_length
    box_next = go (deeper d D d0)
      where
        go : Within d D ⊎ Turned d D → r ≡ 2 + d + box_depth d (suc D)
        go (inl w) = omega (arith, (b.kept (not_last w)).1, w.box)
        go (inr w) = omega (arith, b.next (p ∙ w.last), w.box)

    -- a front of the head and the entries, the orthants, and what is past them in a list that has room for one more
    pub box_on : (front os out : List ℕ) {es : List ℕ} → length front ≡ 2 + d → length os ≡ box_depth d D → code_length d (suc D) ≤ length out → Holds d e es
        → l ≡ (front ++ os) ++ drop (code_length d D) out → l' ≡ (front ++ cond (eqb (level d (suc D)) 0) (os ++ orthant es ∷ []) os) ++ drop (code_length d (suc D)) out
    unfolding code_length
    box_on front os out {es} f c h held i = go (deeper d D d0)
      where
        o : ℕ
        o = orthant es

        go : Within d D ⊎ Turned d D → l' ≡ (front ++ cond (eqb (level d (suc D)) 0) (os ++ o ∷ []) os) ++ drop (2 + d + box_depth d (suc D)) out
        go (inl w) = (b.kept (not_last w)).0 ∙ i ∙ rw (w.level, w.box) refl
        go (inr w) = b.put (p ∙ w.last) d es held ∙ ap (λ (m : List ℕ). set m at o) (i ∙ ap (λ (m : List ℕ). (front ++ os) ++ m) (drop-cons out E 0 (omega (arith, w.box))))
            ∙ set_at (front ++ os) (get_or out E 0) (drop (suc E) out) o at (length-append front os ∙ omega (arith, a))
            ∙ sym (append_snoc (front ++ os) o (drop (suc E) out)) ∙ ap (λ (m : List ℕ). m ++ drop (suc E) out) (append_assoc front os (o ∷ []))
            ∙ rw (w.level, w.box, more) refl
          where
            E : ℕ
            E = 2 + d + box_depth d D

            more : 2 + d + suc (box_depth d D) ≡ suc (2 + d + box_depth d D)
            more = omega arith

-- entries written over those that stand behind two bytes
pub entries_over : (d x y : ℕ) (es fs gs more : List ℕ) → length es ≡ d → take d fs ≡ gs → paste (x ∷ y ∷ (es ++ more)) 2 fs d ≡ (x ∷ y ∷ gs) ++ more
entries_over d x y es fs gs more e g = rw (g, two) (ap (λ (l : List ℕ). x ∷ y ∷ (gs ++ l)) (drop_at es more d e))
  where
    two : 2 + d ≡ suc (suc d)
    two = omega arith
