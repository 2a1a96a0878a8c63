-- The head of a code and the order of refusals, one law for each way out of the code that decides them.
use Rattle.std.specs.Prelude.{◌≡◌, Bool, true, false, not, List, ◌≢◌, ℕ, Ok, Err, ◌+◌, ◌≤◌, ◌<◌, length, get_or, take, drop}
use Rattle.std.proofs.Math.Path.{sym}
use Rattle.std.proofs.Common.{ap, ◌∙◌, arith, length-drop, get_or-take}
use Rattle.std.proofs.Math.Seq.{paste}
use Rattle.std.proofs.lemmas.List.Edits.{length-paste}
use borrow.Author.Tests.{lt-leb, le-leb, ne_eqb, leb-true, not-true, not-false}
use Rattle.dimension.specs.Sizes.{is_dimension, axes_of, halvings, greatest_depth, code_length, box_depth, split_place}
use Rattle.dimension.specs.Laws.{Dimension as Ranges, dimension, box_in, split_range}
use Rattle.bisection.specs.Codes.{dimension_of, depth_of, entries_of, orthants_of}
use Rattle.bisection.specs.Refusals.{done, refused_length, refused_permutation, refused_orthant, refused_sign, permutes, orthants_fit, signs_own, head_refusal, length_of, body_refusal, code_refusal}
use Rattle.bisection.specs.declared.Refusal.{Refusal}
use Rattle.bisection.specs.declared.Refusal.TheVariants.{Dimension, Depth}
use Rattle.bisection.specs.Numbers.{number_of}
use Rattle.bisection.specs.NumberLaws.{refuses}
use Rattle.bisection.specs.Theorems.Ladders.{all_hold, holds, fails, past, stops}
use Rattle.bisection.proofs.Theorems.Ladders.{first_is, held_at}
use Rattle.entries.specs.SignMasks.{AxesWithin, permuted_axes}
use Rattle.entries.specs.Walks.{permutes_same, own_byte, signs_by, signs_by_is}
use Rattle.entries.specs.Words.{NoneBehind}
use Rattle.fours.specs.Fours.{no_entries}
use Rattle.fours.specs.Laws.{pasted_at, pasted_none}
use Rattle.codes.specs.declared.Head.{Head}
use Rattle.codes.specs.Fronts.{inner_refusal, HeadIs, Headed}
use Rattle.codes.specs.Fronts.Laws.{front_refusal_is, front_dimension_is, front_length_is, inner_refusal_is, headed_refusal}

-- what a head tells, refused and done
module _ (bs : List ℕ) where
  pub head_none : is_dimension (dimension_of bs) ≡ false → HeadIs bs (Err Dimension)
  unfolding head_refusal
  head_none e = sym (front_refusal_is bs ∙ first_is (fails e))

  module _ (e : is_dimension (dimension_of bs) ≡ true) where
    pub head_deep : greatest_depth (dimension_of bs) < depth_of bs → HeadIs bs (Err Depth)
    unfolding head_refusal
    head_deep h = sym (front_refusal_is bs ∙ first_is (holds e (fails (lt-leb (depth_of bs) (greatest_depth (dimension_of bs)) h))))

    pub head_done : depth_of bs ≤ greatest_depth (dimension_of bs) → {r : Head} → axes_of r.dim ≡ dimension_of bs → r.length ≡ code_length (dimension_of bs) (depth_of bs) → HeadIs bs (Ok r)
    unfolding head_refusal
    head_done h a q = record {
      passes = front_refusal_is bs ∙ first_is (holds e (holds (le-leb (depth_of bs) (greatest_depth (dimension_of bs)) h) all_hold));
      dimension = a ∙ sym (front_dimension_is bs);
      length = q ∙ sym (front_length_is bs);
    }

-- what the head tells of a code that has its length
module _ {code : List ℕ} (b : Headed code) where
  passes : head_refusal code ≡ done
  passes = sym (front_refusal_is code) ∙ b.head

  ready_dimension : is_dimension (dimension_of code) ≡ true
  unfolding head_refusal
  ready_dimension = held_at _ tt passes 0

  ready_range : Ranges (dimension_of code)
  ready_range = dimension (dimension_of code) ready_dimension

  ready_depth : depth_of code ≤ greatest_depth (dimension_of code)
  unfolding head_refusal
  ready_depth = leb-true (depth_of code) (greatest_depth (dimension_of code)) (held_at _ tt passes 1)

  whole : length code ≡ code_length (dimension_of code) (depth_of code)
  whole = b.size ∙ front_length_is code

  size : length code ≡ 2 + dimension_of code + box_depth (dimension_of code) (depth_of code)
  unfolding code_length
  size = whole

  ready_room : 2 + dimension_of code ≤ length code
  ready_room = omega (arith, size)

  pub ready_long : 0 < length code
  ready_long = omega (arith, ready_room)

  ready_few : length code ≤ 2 + dimension_of code + halvings
  ready_few = omega (arith, size, box_in (dimension_of code) (depth_of code) (omega (arith, ready_range.two)) ready_depth)

-- the body's tests, as the code has the first byte
module _ {code : List ℕ} (ready : Headed code) {n : ℕ} (byte : n ≡ get_or code 0 0) where
  has_dimension : n ≡ dimension_of code
  unfolding dimension_of
  has_dimension = byte

  pub body_some : 1 ≤ n
  body_some = omega (arith, has_dimension, (ready_range ready).two)

  pub body_two : 2 ≤ n
  body_two = omega (arith, has_dimension, (ready_range ready).two)

  pub body_few : n ≤ 4
  body_few = omega (arith, has_dimension, (ready_range ready).few)

  pub body_bits : n < 8
  body_bits = omega (arith, body_few)

  pub body_mask : n ≤ 8
  body_mask = omega (arith, body_few)

  pub body_room : 2 + n ≤ length code
  body_room = omega (arith, has_dimension, ready_room ready)

  pub body_most : length code ≤ 2 + n + halvings
  body_most = omega (arith, has_dimension, ready_few ready)

  pub body_whole : length code ≡ code_length n (depth_of code)
  body_whole = rw has_dimension (whole ready)

-- and its entries, as one word
module _ {code : List ℕ} (ready : Headed code) {n : ℕ} (byte : n ≡ get_or code 0 0) {es : List ℕ} (read : es ≡ paste no_entries 0 (drop 2 code) n) where
  room : n ≤ length (drop 2 code)
  room = omega (arith, length-drop 2 code, body_room ready byte)

  pub body_behind : NoneBehind n es
  body_behind = pasted_none (drop 2 code) (body_few ready byte) room read

  body_long : n ≤ length es
  body_long = rw read (omega (arith, length-paste no_entries 0 (drop 2 code) n (omega (arith, body_few ready byte)) room, body_few ready byte))

  body_at : (i : ℕ) → i < n → get_or es i 0 ≡ get_or (take n (drop 2 code)) i 0
  body_at i h = pasted_at (drop 2 code) (body_few ready byte) room read i h ∙ sym (get_or-take n (drop 2 code) i 0 h)

-- the body, one law for each way out, over what the code has found there
module _ {code : List ℕ} (ready : Headed code) {n : ℕ} (byte : n ≡ get_or code 0 0) {es : List ℕ} (read : es ≡ paste no_entries 0 (drop 2 code) n)
    {permuted : Bool} (marked : permuted ≡ permutes n es) where
  permuted_as : permutes (dimension_of code) (entries_of code) ≡ permuted
  unfolding entries_of
  permuted_as = rw (← has_dimension ready byte) (sym (marked ∙ permutes_same n es (take n (drop 2 code)) (body_at ready byte read)))

  pub body_permutation : not permuted ≡ true → refused_permutation ≡ inner_refusal code
  unfolding body_refusal
  body_permutation h = sym (inner_refusal_is code ∙ first_is (fails (permuted_as ∙ not-true permuted h)))

  module _ (t : not permuted ≡ false) {fitting : Bool} (fits : fitting ≡ orthants_fit n (drop (2 + n) code)) where
    permutation : permutes (dimension_of code) (entries_of code) ≡ true
    permutation = permuted_as ∙ not-false permuted t

    fit_as : orthants_fit (dimension_of code) (orthants_of code) ≡ fitting
    unfolding orthants_of
    fit_as = rw (← has_dimension ready byte) (sym fits)

    pub body_orthant : not fitting ≡ true → refused_orthant ≡ inner_refusal code
    unfolding body_refusal
    body_orthant h = sym (inner_refusal_is code ∙ first_is (holds permutation (fails (fit_as ∙ not-true fitting h))))

    module _ (u : not fitting ≡ false) {k : ℕ} (split : k ≡ split_place n (depth_of code)) where
      split_is : k ≡ split_place (dimension_of code) (depth_of code)
      split_is = split ∙ ap (λ (d : ℕ). split_place d (depth_of code)) (has_dimension ready byte)

      place : (1 ≤ k) × (k ≤ n)
      place = rw split (split_range n (depth_of code) (body_some ready byte))

      -- the entries that the sign test reads
      pub signs_some : 1 ≤ k
      signs_some = place.0

      pub signs_few : k ≤ 4
      signs_few = omega (arith, place, body_few ready byte)

      pub signs_axes : AxesWithin k es
      signs_axes = permuted_axes (sym marked ∙ not-false permuted t) (body_behind ready byte read) (body_long ready byte read) (body_mask ready byte) place.1

      module _ {own : ℕ} {signed : Bool} (owned : own ≡ own_byte (drop (2 + n) code)) (signs : signed ≡ signs_by k es own) where
        signs_as : signs_own (split_place (dimension_of code) (depth_of code)) (entries_of code) (orthants_of code) ≡ signed
        unfolding entries_of orthants_of
        signs_as = rw (← split_is, ← has_dimension ready byte) (sym (signs_by_is k es (take n (drop 2 code)) (drop (2 + n) code) (λ i h. body_at ready byte read i (omega (arith, place)))) ∙ rw (← owned) (sym signs))

        pub body_sign : not signed ≡ true → refused_sign ≡ inner_refusal code
        unfolding body_refusal
        body_sign h = sym (inner_refusal_is code ∙ first_is (holds permutation (holds (fit_as ∙ not-false fitting u) (fails (signs_as ∙ not-true signed h)))))

        pub body_done : not signed ≡ false → done ≡ inner_refusal code
        unfolding body_refusal
        body_done h = sym (inner_refusal_is code ∙ first_is (holds permutation (holds (fit_as ∙ not-false fitting u) (holds (signs_as ∙ not-false signed h) all_hold))))

-- the whole check, one law for each way out
module _ (code : List ℕ) where
  pub check_short : length code < 2 → refused_length ≡ code_refusal code
  unfolding code_refusal
  check_short h = sym (first_is (fails (lt-leb 2 (length code) h)))

  module _ (two : 2 ≤ length code) where
    pub check_head : (x : Refusal) → HeadIs code (Err x) → number_of x ≡ code_refusal code
    unfolding code_refusal
    check_head x is = sym (first_is (holds (le-leb 2 (length code) two) (stops (sym (is ∙ front_refusal_is code)) (refuses x))))

    module _ {r : Head} (is : HeadIs code (Ok r)) where
      passed : head_refusal code ≡ done
      passed = sym (front_refusal_is code) ∙ is.passes

      pub check_length : length code ≢ r.length → refused_length ≡ code_refusal code
      unfolding code_refusal length_of
      check_length n = sym (first_is (holds (le-leb 2 (length code) two) (past passed (fails (ne_eqb (length code) (code_length (dimension_of code) (depth_of code)) (λ q. n (q ∙ sym (is.length ∙ front_length_is code))))))))

      pub check_headed : length code ≡ r.length → Headed code
      check_headed q = record { head = is.passes; size = q ∙ is.length }

      pub check_body : length code ≡ r.length → (x : ℕ) → x ≡ inner_refusal code → x ≡ code_refusal code
      check_body q x b = b ∙ sym (headed_refusal code (check_headed q))
