-- Bytes put into a buffer at a place, one part after the other.
use Rattle.std.specs.Prelude.{◌≡◌, refl, ℕ, suc, ◌+◌, ◌≤◌, ◌<◌, take, set}
use Rattle.std.proofs.Common.{sym, ◌∙◌, arith, length-take, take-append-drop, take_at, drop_at, take_all, drop-drop}
use Rattle.std.proofs.Math.Path.{ap}
use mathlib.Core.List.{List, [], ◌∷◌, ◌++◌, append_assoc, append-nil}
use Rattle.std.proofs.Math.ListN.{length, drop, length-append, length-drop}
use Rattle.std.proofs.lemmas.List.{set_split}
use Rattle.std.proofs.Math.Seq.{paste}

unfoldable pub put : ℕ → List ℕ → List ℕ → List ℕ
put at t out = (take at out ++ t) ++ drop (at + length t) out

-- what a function that puts a text does: the buffer, and the place after the text
pub record Puts (at : ℕ) (t out : List ℕ) (r : ℕ) (out' : List ℕ) : Type 0 where
  pub next : r ≡ at + length t
  pub is : out' ≡ put at t out

module _ (at : ℕ) (t out : List ℕ) (h : at + length t ≤ length out) where
  front : length (take at out ++ t) ≡ at + length t
  front = length-append (take at out) t ∙ ap (λ (n : ℕ). n + length t) (length-take at out ∙ omega arith)

  pub put_length : length (put at t out) ≡ length out
  unfolding put
  put_length = length-append (take at out ++ t) (drop (at + length t) out) ∙ rw (front, length-drop (at + length t) out) (omega arith)

  -- a text behind the first one
  pub put_more : (u : List ℕ) → put (at + length t) u (put at t out) ≡ put at (t ++ u) out
  unfolding put
  put_more u = ap (λ (l : List ℕ). (l ++ u) ++ drop (at + length t + length u) ((take at out ++ t) ++ drop (at + length t) out)) (take_at (take at out ++ t) (drop (at + length t) out) (at + length t) front)
      ∙ ap (λ (l : List ℕ). ((take at out ++ t) ++ u) ++ l) behind
      ∙ ap (λ (l : List ℕ). l ++ drop (at + length (t ++ u)) out) (append_assoc (take at out) t u)
    where
      whole : at + length t + length u ≡ at + length (t ++ u)
      whole = omega (arith, length-append t u)

      behind : drop (at + length t + length u) ((take at out ++ t) ++ drop (at + length t) out) ≡ drop (at + length (t ++ u)) out
      behind = sym (drop-drop (length u) (at + length t) ((take at out ++ t) ++ drop (at + length t) out))
          ∙ ap (drop (length u)) (drop_at (take at out ++ t) (drop (at + length t) out) (at + length t) front)
          ∙ drop-drop (length u) (at + length t) out ∙ ap (λ (n : ℕ). drop n out) whole

pub put_none : (at : ℕ) (out : List ℕ) → put at [] out ≡ out
unfolding put
put_none at out = ap (λ (l : List ℕ). l ++ drop (at + 0) out) (append-nil (take at out)) ∙ ap (λ (n : ℕ). take at out ++ drop n out) none ∙ take-append-drop at out
  where
    none : at + 0 ≡ at
    none = omega arith

pub put_one : (at b : ℕ) (out : List ℕ) → at < length out → set out at b ≡ put at (b ∷ []) out
unfolding put
put_one at b out h = set_split out at b h ∙ sym (append_assoc (take at out) (b ∷ []) (drop (suc at) out)) ∙ ap (λ (n : ℕ). (take at out ++ (b ∷ [])) ++ drop n out) next
  where
    next : suc at ≡ at + 1
    next = omega arith

-- a copy of a whole list puts it
pub put_copy : (at n : ℕ) (t out : List ℕ) → n ≡ length t → paste out at t n ≡ put at t out
unfolding put
put_copy at n t out e = rw (e, take_all (length t) t (omega arith)) refl

pub puts_length : {at r : ℕ} {t out out' : List ℕ} → at + length t ≤ length out → Puts at t out r out' → length out' ≡ length out
puts_length {at} {r} {t} {out} h p = ap length p.is ∙ put_length at t out h

pub puts_more : {at r s : ℕ} {t u out out' out'' : List ℕ} → at + length t ≤ length out → Puts at t out r out' → Puts r u out' s out'' → Puts at (t ++ u) out s out''
puts_more {at} {r} {s} {t} {u} {out} h p q = record { next = q.next ∙ omega (arith, p.next, length-append t u); is = q.is ∙ rw (p.is, p.next) (put_more at t out h u) }

-- room for what comes behind a text
pub puts_fits : {at r : ℕ} {t out out' : List ℕ} (n : ℕ) → at + (length t + n) ≤ length out → Puts at t out r out' → r + n ≤ length out'
puts_fits n h p = omega (arith, p.next, puts_length (omega (arith, h)) p)

-- a text that is being put: what is left of it makes it whole
pub record Putting (at : ℕ) (t out₀ : List ℕ) (to : ℕ) (left out : List ℕ) : Type 0 where
  pub size : length out ≡ length out₀
  pub end : to + length left ≡ at + length t
  pub fits : to + length left ≤ length out
  pub whole : put to left out ≡ put at t out₀

pub putting_start : (at : ℕ) (t out : List ℕ) → at + length t ≤ length out → Putting at t out at t out
putting_start at t out h = record { size = refl; end = refl; fits = h; whole = refl }

module _ {at : ℕ} {t out₀ : List ℕ} {to : ℕ} {left out : List ℕ} (on : Putting at t out₀ to left out) where
  pub putting_next : (u rest : List ℕ) {r : ℕ} {out' : List ℕ} → left ≡ u ++ rest → Puts to u out r out' → Putting at t out₀ r rest out'
  putting_next u rest {r} {out'} e p = record {
    size = same ∙ on.size;
    end = omega (arith, on.end, p.next, long);
    fits = omega (arith, on.fits, p.next, long, same);
    whole = rw (p.is, p.next) (put_more to u out room rest) ∙ ap (λ (l : List ℕ). put to l out) (sym e) ∙ on.whole;
  }
    where
      long : length left ≡ length u + length rest
      long = ap length e ∙ length-append u rest

      room : to + length u ≤ length out
      room = omega (arith, on.fits, long)

      same : length out' ≡ length out
      same = puts_length room p

  pub putting_end : left ≡ [] → Puts at t out₀ to out
  putting_end e = record { next = omega (arith, on.end, ap length e); is = sym (put_none to out) ∙ ap (λ (l : List ℕ). put to l out) (sym e) ∙ on.whole }

-- two bytes stored one after the other
pub put_two : (at a b : ℕ) (out : List ℕ) → at + 2 ≤ length out → Puts at (a ∷ b ∷ []) out (at + 2) (set (set out at a) (at + 1) b)
put_two at a b out h = record { next = refl; is = ap (λ (l : List ℕ). set l (at + 1) b) (put_one at a out (omega arith)) ∙ put_one (at + 1) b (put at (a ∷ []) out) (omega (arith, put_length at (a ∷ []) out (omega arith))) ∙ put_more at (a ∷ []) out (omega arith) (b ∷ []) }
