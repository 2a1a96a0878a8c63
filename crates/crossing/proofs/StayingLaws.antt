-- A crossing that stays in the box: every other facet. The entries are rearranged, the orthants stay, and there is
-- always a cell across.
use Rattle.std.specs.Prelude.{◌≡◌, ◌≢◌, Bool, Err, cond, List, ◌++◌, ℕ, ◌+◌, ◌≤◌, ◌<◌, eqb, get_or}
use Rattle.std.proofs.Math.Path.{refl, sym, ap, subst}
use Rattle.std.proofs.Common.{◌∙◌, arith}
use Rattle.std.proofs.Math.Bool.{true, false}
use Rattle.std.proofs.Math.Decide.{dec_lt}
use Rattle.std.proofs.Math.ListN.{length, take, drop, get_or-append}
use Rattle.std.proofs.Math.Seq.{take_at, paste}
use borrow.Author.Tests.{eq-eqb, ne_eqb}
use Rattle.dimension.specs.Sizes.{code_length, longest_of_all, split_place}
use Rattle.dimension.specs.Laws.{split_range}
use Rattle.bisection.specs.Codes.{axis, minus, high, Name, bytes, dimension_of, depth_of, entries_of, orthants_of, parts_of}
use Rattle.bisection.specs.Refusals.{done, same_sign, own_minus, code_refusal}
use Rattle.bisection.specs.Theorems.Table.{swap, left, right, trade, move_of, new_place, next_own, entries_by, orthants_by, blocked_by, blocked, across_name}
use Rattle.bisection.proofs.Theorems.Checked.{parts_bytes}
use Rattle.bisection.proofs.Theorems.Crossing.Moves.{view}
use Rattle.bisection.specs.Theorems.Crossing.Sound.{Allowed}
use Rattle.bisection.proofs.Theorems.Crossing.Sound.{allowed}
use Rattle.bisection.proofs.Theorems.Crossing.Rearranged.{entries_length}
use Rattle.bisection.specs.Theorems.Neighbour.{is_blocked, table_code, table_place}
use Rattle.entries.specs.Walks.{own_byte}
use Rattle.entries.specs.Passed.{code_few, Checked, checked}
use Rattle.steps.specs.Copying.{whole_front}
use Rattle.fours.specs.declared.Four.{Four}
use Rattle.fours.specs.Fours.{four, no_entries}
use Rattle.fours.specs.Laws.{pasted}
use Rattle.moves.specs.Rearranging.{own_next, Rearranges, within, within_is, Movable}
use Rattle.crossing.proofs.AnswerLaws.{cross_short, entries_append, code_pasted}
use Rattle.bisection.specs.declared.Refusal.TheVariants.{Short}
use Rattle.crossing.specs.Forms.{crossed}
use Rattle.crossing.specs.Outcome.{Crosses}
use Rattle.crossing.specs.Landing.{Landed}
use Rattle.crossing.proofs.LandingLaws.{landed}
use Rattle.crossing.specs.Staying.{Staying}

-- from the numbers that the code computes
pub staying : (code : List ℕ) {x d k i j t : ℕ} → x ≡ code_refusal code → x ≡ done → d ≡ dimension_of code → k ≡ split_place d (depth_of code) → j ≡ i
    → j ≤ d → t ≡ cond (eqb j 0) k j → t ≢ d → Staying code d k i
staying code {x} {d} {k} {i} {j} e z axes split f h l w = record {
  passes = p;
  axes = axes;
  split = split ∙ ap (λ (n : ℕ). split_place n (depth_of code)) axes;
  inside = omega (arith, last);
  first = λ q. less (start (f ∙ q));
}
  where
    p : code_refusal code ≡ done
    p = sym e ∙ z

    start : j ≡ 0 → k ≢ d
    start q v = w (l ∙ subst (λ (c : Bool). cond c k j ≡ d) (sym (eq-eqb j 0 q)) v)

    two : 2 ≤ d
    two = omega (arith, axes, (checked code p).range.two)

    last : j ≢ d
    last v = w (l ∙ subst (λ (c : Bool). cond c k j ≡ d) (sym (ne_eqb j 0 (omega (arith, two)))) v)

    less : k ≢ d → k < d
    less u = omega (arith, split, (split_range d (depth_of code) (omega (arith, two))).1)

-- the rows that stay in the box leave the orthants and are never blocked
module _ (d k i : ℕ) (own : Bool) (m : Name) where
  within_free : blocked_by d (within k i own) m ≡ false
  unfolding within blocked_by
  within_free = go (eqb i 0) (eqb i k) own
    where
      go : (a b c : Bool) → blocked_by d (cond a (cond c left trade) (cond b (cond c (swap k) right) (swap i))) m ≡ false
      go true b true = refl
      go true b false = refl
      go false true true = refl
      go false true false = refl
      go false false c = refl

  within_orthants : orthants_by d (within k i own) m ≡ m.orthants
  unfolding within orthants_by
  within_orthants = go (eqb i 0) (eqb i k) own
    where
      go : (a b c : Bool) → orthants_by d (cond a (cond c left trade) (cond b (cond c (swap k) right) (swap i))) m ≡ m.orthants
      go true b true = refl
      go true b false = refl
      go false true true = refl
      go false true false = refl
      go false false c = refl

module _ {code : List ℕ} {d k i : ℕ} (r : Staying code d k i) where
  c : Checked code
  c = checked code r.passes

  m : Name
  m = parts_of code

  dim : ℕ
  dim = dimension_of code

  range : (1 ≤ k) × (k ≤ dim)
  unfolding dim
  range = rw r.split (split_range (dimension_of code) (depth_of code) (omega (arith, c.range.two)))

  pub staying_room : 2 + d ≤ length code
  unfolding code_length
  staying_room = omega (arith, c.size, r.axes)

  pub staying_put : (buf out : List ℕ) → length buf ≡ length out → length code ≤ length out → 2 + d ≤ length buf
  staying_put buf out e h = omega (arith, staying_room)

  pub staying_long : 4 ≤ length code
  staying_long = omega (arith, staying_room, r.axes, c.range.two)

  pub staying_most : length code ≤ longest_of_all
  staying_most = code_few c

  pub staying_few : d ≤ 8
  staying_few = omega (arith, c.range.few, r.axes)

  pub staying_facet : i ≤ dimension_of code
  staying_facet = omega (arith, r.inside, r.axes)

  row : move_of dim (depth_of code) i m ≡ within k i (next_own k m)
  unfolding move_of dim
  row = rw (← r.split) (within_is (dimension_of code) k i (next_own k m) (omega (arith, r.inside, r.axes)) (λ e. omega (arith, r.first e, r.axes)))

  pub staying_free : is_blocked code i ≡ false
  unfolding blocked m dim
  staying_free = rw row (within_free (dimension_of code) k i (next_own k (parts_of code)) (parts_of code))

  -- the code's entries by value
  es : List ℕ
  es = m.entries

  sized : length es ≡ dim
  unfolding es m dim
  sized = c.good.passes.signed.size

  pub staying_two : 2 ≤ d
  staying_two = omega (arith, r.axes, c.range.two)

  pub staying_four : d ≤ 4
  staying_four = omega (arith, r.axes, c.range.few)

  allows : Allowed dim k (within k i (next_own k m))
  unfolding dim
  allows = subst (Allowed (dimension_of code) k) (within_is (dimension_of code) k i (next_own k m) (omega (arith, r.inside, r.axes)) (λ e. omega (arith, r.first e, r.axes)))
      (allowed range.0 range.1 staying_facet (view (dimension_of code) k i (next_own k m)))

  module _ {l : List ℕ} (q : l ≡ paste no_entries 0 (drop 2 code) d) where
    held : l ≡ es ++ drop d no_entries
    unfolding es m parts_of entries_of
    held = q ∙ pasted (drop 2 code) d ∙ ap (λ (n : ℕ). take n (drop 2 code) ++ drop d no_entries) r.axes

    entry : k < dim → get_or l k 0 ≡ get_or es k 0
    entry h = ap (λ (x : List ℕ). get_or x k 0) held ∙ get_or-append es (drop d no_entries) 0 k (omega (arith, sized))

    -- as the code has the facet and the box's own signs; then what the rearrangement gives
    module _ {j own : ℕ} (f : j ≡ i) (o : own ≡ own_byte (drop (2 + d) code)) where
      same_row : within k j (own_next k own l) ≡ within k i (next_own k m)
      same_row = rw f (go (dec_lt k dim))
        where
          go : Dec (k < dim) → within k i (own_next k own l) ≡ within k i (next_own k m)
          go (yes h) = ap (within k i) (unfold next_own own_minus m es parts_of orthants_of dim in rw (o ∙ ap (λ (x : ℕ). own_byte (drop (2 + x) code)) r.axes)
              (ap (λ (x : ℕ). same_sign (minus x) (high (own_byte (drop (2 + dimension_of code) code)) (axis x))) (entry h)))
          go (no h) = unfold within dim in rw (ne_eqb i 0 (λ z. omega (arith, r.first z, r.axes)), ne_eqb i k (omega (arith, r.inside, r.axes, range))) refl

      module _ {place : ℕ} {rs : List ℕ} (s : Rearranges k (within k j (own_next k own l)) l place rs) where
        there : place ≡ table_place code i
        unfolding new_place dim m
        there = s.new (dimension_of code) ∙ rw (same_row, row, ← r.split) refl

        entries : take d rs ≡ entries_by dim k (within k i (next_own k m)) es
        unfolding dim
        entries = ap (take d) (s.entries dim ∙ rw (same_row, held) (entries_append allows range.0 range.1 es (drop d no_entries) sized))
            ∙ take_at (entries_by dim k (within k i (next_own k m)) es) (drop d no_entries) d (entries_length es sized allows ∙ sym r.axes)

        across : bytes (dimension_of code) (depth_of code) (record { entries = take d rs; orthants = orthants_of code }) ≡ table_code code i
        unfolding bytes across_name dim m es parts_of
        across = rw (entries, row, ← r.split, within_orthants (dimension_of code) k i (next_own k (parts_of code)) (parts_of code)) refl

        same : orthants_of code ≡ orthants_of (table_code code i)
        unfolding parts_of dim
        same = sym (ap (λ (m : Name). m.orthants) (parts_bytes (dimension_of code) (depth_of code) (record { entries = take d rs; orthants = orthants_of code }) (ap length entries ∙ entries_length es sized allows)))
            ∙ ap orthants_of across

        pub staying_done : (out : List ℕ) {buf after : List ℕ} → length code ≤ length out → buf ≡ take (length code) code ++ drop (length code) out → after ≡ paste buf 2 rs d
            → Landed code i out (record { place = place; beside = false }) after
        staying_done out h b a = landed code out i r.passes staying_facet staying_free h (record { place = place; beside = false }) there (λ l. same)
            (a ∙ ap (λ (l : List ℕ). paste l 2 rs d) (b ∙ whole_front code out) ∙ code_pasted code r.passes r.axes rs (drop (length code) out)
            ∙ ap (λ (l : List ℕ). l ++ drop (length code) out) across)

  pub staying_movable : (e : Four) {j : ℕ} → four e ≡ paste no_entries 0 (drop 2 code) d → j ≡ i → Movable d k j e
  unfolding es m dim
  staying_movable e q f = record {
    es = (parts_of code).entries;
    held = record { signed = rw r.axes c.good.passes.signed; is = held q };
    two = staying_two;
    split = range.0;
    most = rw r.axes range.1;
    inside = rw f r.inside;
    first = λ z. r.first (sym f ∙ z);
  }

  pub staying_short : (out : List ℕ) → length out < length code → Crosses code i out (crossed (Err Short)) out
  staying_short out h = cross_short code out i r.passes staying_facet staying_free h
