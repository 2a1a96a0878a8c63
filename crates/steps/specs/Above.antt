-- One depth up: the split place, the boxes and the own byte, from those here.
use Rattle.std.specs.Prelude.{◌≡◌, refl, cond, List, ℕ, suc, ◌+◌, ◌-◌, ◌≤◌, ◌<◌, eqb, ◌⊎◌, length, get_or, take, drop}
use Rattle.std.proofs.Common.{sym, ap, ◌∙◌, arith, eq-eqb, ne_eqb, inl, inr, get_or-take, get_or-drop, length-take, length-drop}
use Rattle.std.proofs.Math.Decide.{ℕ_discrete}
use Rattle.dimension.specs.Sizes.{split_place, box_depth, code_length}
use Rattle.dimension.specs.Laws.{split_range, Within, Turned, deeper}
use Rattle.entries.specs.Walks.{own_byte}

-- the split place and the boxes one depth up
abbrev pub place_above : ℕ → ℕ → ℕ
place_above k d = cond (eqb k d) 1 (k + 1)

abbrev pub boxes_above : ℕ → ℕ → ℕ → ℕ
boxes_above boxes k d = cond (eqb k d) (boxes - 1) boxes

pub record BoxesReady (boxes k d : ℕ) : Type 0 where
  pub some : k ≡ d → 1 ≤ boxes

module _ (k d boxes : ℕ) where
  pub place_first : k ≡ d → 1 ≡ place_above k d
  place_first e = rw (eq-eqb k d e) refl

  pub place_on : (k ≡ d → ⊥) → k + 1 ≡ place_above k d
  place_on n = rw (ne_eqb k d n) refl

  pub boxes_first : k ≡ d → boxes - 1 ≡ boxes_above boxes k d
  boxes_first e = rw (eq-eqb k d e) refl

  pub boxes_on : (k ≡ d → ⊥) → boxes ≡ boxes_above boxes k d
  boxes_on n = rw (ne_eqb k d n) refl

record Above (k d boxes t : ℕ) : Type 0 where
  pub place : place_above k d ≡ split_place d t
  pub count : boxes_above boxes k d ≡ box_depth d t
  pub some : k ≡ d → 1 ≤ boxes

above_suc : (k d boxes t : ℕ) → 0 < d → k ≡ split_place d (suc t) → boxes ≡ box_depth d (suc t) → Above k d boxes t
above_suc k d boxes t d0 e f = go (deeper d t d0)
  where
    go : Within d t ⊎ Turned d t → Above k d boxes t
    go (inl w) =
        let n : k ≡ d → ⊥ = λ q. omega (arith, w.split, split_range d t d0) in
        record { place = sym (place_on k d boxes n) ∙ omega (arith, w.split); count = sym (boxes_on k d boxes n) ∙ f ∙ w.box; some = λ q. absurd (n q) }
    go (inr w) =
        let q : k ≡ d = e ∙ w.split in
        record { place = sym (place_first k d boxes q) ∙ sym w.last; count = sym (boxes_first k d boxes q) ∙ omega (arith, w.box); some = λ z. omega (arith, w.box) }

module _ {k d boxes t : ℕ} (d0 : 0 < d) (pos : 0 < t) (e : k ≡ split_place d t) (f : boxes ≡ box_depth d t) where
  a : Above k d boxes (t - 1)
  a = above_suc k d boxes (t - 1) d0 (e ∙ ap (split_place d) back) (f ∙ ap (box_depth d) back)
    where
      back : t ≡ suc (t - 1)
      back = omega arith

  pub above_place : place_above k d ≡ split_place d (t - 1)
  above_place = a.place

  pub above_boxes : boxes_above boxes k d ≡ box_depth d (t - 1)
  above_boxes = a.count

  pub above_ready : BoxesReady boxes k d
  above_ready = record { some = a.some }

-- the code has a byte for each box of a depth above
pub boxes_room : (d t : ℕ) (code : List ℕ) → code_length d t ≤ length code → 2 + d + box_depth d t ≤ length code
unfolding code_length
boxes_room d t code h = h

-- what the loop's calls answer
module _ {k d boxes t : ℕ} (d0 : 0 < d) (pos : 0 < t) (e : k ≡ split_place d t) (f : boxes ≡ box_depth d t) where
  pub go_boxes : {r : ℕ} → r ≡ boxes_above boxes k d → r ≡ box_depth d (t - 1)
  go_boxes u = u ∙ above_boxes d0 pos e f

  pub go_place : {r : ℕ} → r ≡ place_above k d → r ≡ split_place d (t - 1)
  go_place u = u ∙ above_place d0 pos e f

pub own_by : (code : List ℕ) (d b b' : ℕ) {own : ℕ} → b ≡ b' → own ≡ own_byte (take b (drop (2 + d) code)) → own ≡ own_byte (take b' (drop (2 + d) code))
own_by code d b b' e u = u ∙ ap (λ (n : ℕ). own_byte (take n (drop (2 + d) code))) e

-- the own byte by the count of boxes
own_no_box : (d boxes : ℕ) (code : List ℕ) → boxes ≡ 0 → 0 ≡ own_byte (take boxes (drop (2 + d) code))
own_no_box d boxes code e = rw e refl

own_last_box : (d boxes : ℕ) (code : List ℕ) → 2 + d + boxes ≤ length code → (boxes ≡ 0 → ⊥) → get_or code (1 + d + boxes) 0 ≡ own_byte (take boxes (drop (2 + d) code))
own_last_box d boxes code h n = sym (rw counted (get_or-take boxes (drop (2 + d) code) (boxes - 1) 0 (omega arith) ∙ get_or-drop (2 + d) code (boxes - 1) 0) ∙ ap (λ (i : ℕ). get_or code i 0) there)
  where
    counted : length (take boxes (drop (2 + d) code)) ≡ boxes
    counted = simp (length-take, length-drop) (omega arith)

    there : 2 + d + (boxes - 1) ≡ 1 + d + boxes
    there = omega arith

pub own_either : (d boxes : ℕ) (code : List ℕ) → 2 + d + boxes ≤ length code → cond (eqb boxes 0) 0 (get_or code (1 + d + boxes) 0) ≡ own_byte (take boxes (drop (2 + d) code))
own_either d boxes code h = go (ℕ_discrete boxes 0)
  where
    go : Dec (boxes ≡ 0) → cond (eqb boxes 0) 0 (get_or code (1 + d + boxes) 0) ≡ own_byte (take boxes (drop (2 + d) code))
    go (yes e) = rw (eq-eqb boxes 0 e) (own_no_box d boxes code e)
    go (no e) = rw (ne_eqb boxes 0 e) (own_last_box d boxes code h e)
