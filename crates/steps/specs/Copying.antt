-- The front of a code copied to a buffer's front, four bytes at a time.
use Rattle.std.specs.Prelude.{◌≡◌, refl, List, ◌++◌, ℕ, ◌+◌, ◌-◌, min, max, ◌≤◌, ◌<◌, length, get_or, take, drop}
use Rattle.std.proofs.Common.{sym, ap, ◌∙◌, arith, length-append, length-take, length-drop, get_or-drop, get_or-take, take_all, get_or-append-add, ext_get_or}
use Rattle.std.proofs.Math.Decide.{dec_lt}
use Rattle.std.proofs.Math.ListN.{get_or-append}
use Rattle.entries.specs.Walks.{place_in, place_under, place_past}

-- four bytes from a place on are copied, and the others stay
pub record CopiesFour (at : ℕ) (src dst r : List ℕ) : Type 0 where
  pub size : length r ≡ length dst
  pub before : (j : ℕ) → j < at → get_or r j 0 ≡ get_or dst j 0
  pub copied : (j : ℕ) → at ≤ j → j < at + 4 → get_or r j 0 ≡ get_or src j 0
  pub past : (j : ℕ) → at + 4 ≤ j → get_or r j 0 ≡ get_or dst j 0

-- the copy under way: the places before i are copied
pub record Copying (code out : List ℕ) (i : ℕ) (buf : List ℕ) : Type 0 where
  pub size : length buf ≡ length out
  pub copied : (j : ℕ) → j < i → get_or buf j 0 ≡ get_or code j 0
  pub past : (j : ℕ) → i ≤ j → get_or buf j 0 ≡ get_or out j 0

pub copying_none : (code out : List ℕ) → Copying code out 0 out
copying_none code out = record { size = refl; copied = λ j h. absurd (omega arith); past = λ j h. refl }

module _ {code out : List ℕ} {i : ℕ} {buf r : List ℕ} (s : Copying code out i buf) where
  -- four more from a place on up to which all are copied
  copying_to : (at : ℕ) → CopiesFour at code buf r → at ≤ i → Copying code out (max i (at + 4)) r
  copying_to at f l = record { size = f.size ∙ s.size; copied = λ j h. go j h (dec_lt j at) (dec_lt j (at + 4)); past = λ j h. f.past j (omega arith) ∙ s.past j (omega arith) }
    where
      go : (j : ℕ) → j < max i (at + 4) → Dec (j < at) → Dec (j < at + 4) → get_or r j 0 ≡ get_or code j 0
      go j h (yes q) w = f.before j q ∙ s.copied j (omega arith)
      go j h (no q) (yes w) = f.copied j (omega arith) w
      go j h (no q) (no w) = f.past j (omega arith) ∙ s.copied j (omega arith)

module _ {code out : List ℕ} {i : ℕ} {buf : List ℕ} (s : Copying code out i buf) where
  copying_all : (n : ℕ) → i ≡ n → n ≤ length code → n ≤ length out → buf ≡ take n code ++ drop n out
  copying_all n e g h = ext_get_or 0 buf (take n code ++ drop n out) (s.size ∙ sym size) (λ j q. go j (dec_lt j n))
    where
      front : length (take n code) ≡ n
      front = simp length-take (omega arith)

      size : length (take n code ++ drop n out) ≡ length out
      size = length-append (take n code) (drop n out) ∙ rw front (simp length-drop (omega arith))

      go : (j : ℕ) → Dec (j < n) → get_or buf j 0 ≡ get_or (take n code ++ drop n out) j 0
      go j (yes q) = s.copied j (omega arith) ∙ sym (get_or-append (take n code) (drop n out) 0 j (omega (arith, front)) ∙ get_or-take n code j 0 q)
      go j (no q) = s.past j (omega arith) ∙ sym
          (ap (λ (x : ℕ). get_or (take n code ++ drop n out) x 0) there ∙ get_or-append-add (take n code) (drop n out) (j - n) 0 ∙ get_or-drop n out (j - n) 0 ∙ ap
          (λ (x : ℕ). get_or out x 0) back)
        where
          there : j ≡ length (take n code) + (j - n)
          there = omega (arith, front)

          back : n + (j - n) ≡ j
          back = omega arith

-- the walk over the longest code: the places before i are copied, or all up to the last four
pub record Fronted (code out : List ℕ) (last i : ℕ) (buf : List ℕ) : Type 0 where
  pub reach : ℕ
  pub so_far : Copying code out reach buf
  pub within : reach ≤ last + 4
  pub far : min i last ≤ reach

pub fronted_none : (code out : List ℕ) (last : ℕ) → Fronted code out last 0 out
fronted_none code out last = record { reach = 0; so_far = copying_none code out; within = omega arith; far = omega arith }

module _ {code out : List ℕ} {last i : ℕ} {buf r : List ℕ} (t : Fronted code out last i buf) where
  pub fronted_next : (p : ℕ) → p ≡ place_in i last → CopiesFour p code buf r → Fronted code out last (i + 4) r
  fronted_next p e f = go (dec_lt i last)
    where
      go : Dec (i < last) → Fronted code out last (i + 4) r
      go (yes l) = record { reach = max t.reach (p + 4); so_far = copying_to t.so_far p f (omega (arith, here, t.far)); within = omega (arith, here, t.within); far = omega (arith, here) }
        where
          here : p ≡ i
          here = e ∙ place_under i last l
      go (no l) = record { reach = max t.reach (p + 4); so_far = copying_to t.so_far p f (omega (arith, first)); within = omega (arith, first, t.within); far = omega (arith, t.far) }
        where
          first : p ≡ 0
          first = e ∙ place_past i last (omega arith)

  pub fronted_last : (n : ℕ) → CopiesFour last code buf r → last ≤ i → last + 4 ≡ n → n ≤ length code → n ≤ length out → r ≡ take n code ++ drop n out
  fronted_last n f l e g h = copying_all (copying_to t.so_far last f (omega (arith, t.far))) n (omega (arith, t.within)) g h

-- a whole code
pub whole_front : (code out : List ℕ) → take (length code) code ++ drop (length code) out ≡ code ++ drop (length code) out
whole_front code out = ap (λ (l : List ℕ). l ++ drop (length code) out) (take_all (length code) code (omega arith))
