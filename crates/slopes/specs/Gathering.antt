-- The walk over a code's entries: the slopes along the first i are on their axes, and the other axes have +0.0. At its end these are the
-- slopes of the code's cell.
use Rattle.std.specs.Prelude.{◌≡◌, refl, List, [], ◌∷◌, ◌≢◌, ℕ, zero, suc, ◌+◌, ◌-◌, ◌*◌, ◌^◌, ◌≤◌, ◌<◌, ℤ, pos, Float, length, get_or, set, drop}
use Rattle.std.proofs.Common.{sym, ap, ◌∙◌, subst, arith, mul-le-mul_left, add-one, length-set, get_or-set_same, get_or-set_other}
use Rattle.std.proofs.Math.Decide.{dec_le, ℕ_discrete}
use Rattle.std.specs.Float.{nan}
use Rattle.std.proofs.Math.ListN.{get_or-eq_default}
use Rattle.std.proofs.Math.Seq.{paste}
use Rattle.dimension.specs.Sizes.{split_place, box_side}
use Rattle.bisection.specs.Cells.{cell_of}
use Rattle.bisection.specs.Codes.{axis, minus, IsCodeOf, dimension_of, depth_of, entries_of, orthants_of, parts_of, name_of}
use Rattle.bisection.specs.Refusals.{done, code_refusal}
use Rattle.bisection.specs.Slopes.{on_axis, Linear}
use Rattle.bisection.proofs.Theorems.CodePaths.{code_passes, dimension_of_code, depth_of_code, parts_of_code}
use Rattle.bisection.specs.Theorems.Drawn.{entry}
use Rattle.bisection.specs.Theorems.Entries.{Signed, Stands}
use Rattle.bisection.proofs.Theorems.Entries.{stands}
use Rattle.bisection.proofs.Theorems.Geometry.{closed_form}
use Rattle.bisection.specs.Theorems.Slopes.Rising.{rising, falling}
use Rattle.bisection.specs.Theorems.Slopes.One.{by_sign, along_entry, OneSlope}
use Rattle.bisection.proofs.Theorems.Slopes.One.{one_slope}
use Rattle.entries.specs.Words.{bytes_of}
use Rattle.entries.specs.Passed.{checked}
use Rattle.fours.specs.Fours.{no_entries}
use Rattle.corners.specs.Lows.{lows_in}
use Rattle.corners.specs.Vertices.{Frame, frame_made, code_signed, code_dimension}
use Rattle.greys.specs.Fractions.{Quotient, Power, plus_zero}
use Rattle.greys.specs.Samples.{sample_at}
use Rattle.greys.specs.Exact.{zero_quotient, box_power}
use Rattle.slopes.specs.declared.Slopes.{Slopes}
use Rattle.slopes.specs.Slopes.{Components}
use Rattle.slopes.specs.Along.{rising_by, falling_by}

-- a code that passes, and a sample at each of its cell's vertices
pub record Sampling (code : List ℕ) (width : ℕ) (samples : List ℕ) : Type 0 where
  pub passes : code_refusal code ≡ done
  pub room : width * suc (dimension_of code) ≤ length samples
  pub narrow : width ≤ 3

-- the slopes in the cell of a root and a path with these samples
pub record CellSlopes (root path : List ℕ) (width : ℕ) (samples : List ℕ) (x : Slopes) : Type 0 where
  pub numbers : List ℤ
  pub linear : Linear (box_side (length root) (length path)) (cell_of root path) (sample_at width samples) numbers
  pub components : Components (box_side (length root) (length path)) numbers x

-- whatever cell's code it is
pub record SlopesOf (code : List ℕ) (width : ℕ) (samples : List ℕ) (x : Slopes) : Type 0 where
  pub of : (root path : List ℕ) → IsCodeOf code root path → CellSlopes root path width samples x

-- sample j as the code reads it
abbrev pub Sampled : ℕ → List ℕ → ℕ → ℕ → Type 0
Sampled width samples j x = (x ≡ sample_at width samples j) × (x < 2 ^ 24)

-- the axis of entry t of a code, counted from 0
abbrev place_in : List ℕ → ℕ → ℕ
place_in code t = axis (get_or (entries_of code) t 0) - 1

pub record Gathering (code : List ℕ) (width : ℕ) (samples : List ℕ) (d side entries split first : ℕ) (on : List Float) (before i : ℕ) : Type 0 where
  pub ready : Sampling code width samples
  pub axes : d ≡ dimension_of code
  pub frame : Frame code (lows_in (orthants_of code)) side entries split
  pub few : i ≤ d
  pub size : length on ≡ 4
  pub first_is : Sampled width samples 0 first
  pub before_is : Sampled width samples i before
  pub there : (t : ℕ) → t < i → Quotient (get_or on (place_in code t) nan) (along_entry split (parts_of code) (sample_at width samples) t) side
  pub none : (a : ℕ) → a < 4 → ((t : ℕ) → t < i → place_in code t ≢ a) → get_or on a nan ≡ plus_zero

-- ---- what the functions that are asked require

module _ {code : List ℕ} {width : ℕ} {samples : List ℕ} (r : Sampling code width samples) where
  -- the sample at a vertex is there
  pub ready_sample : {j : ℕ} → j ≤ dimension_of code → (width ≤ 3) × (width * suc j ≤ length samples)
  ready_sample {j} l = (r.narrow, omega (arith, r.room, mul-le-mul_left {m = suc j} {n = suc (dimension_of code)} width (omega arith)))

  pub ready_power : Power (box_side (dimension_of code) (depth_of code))
  ready_power = let k = checked code r.passes in box_power (dimension_of code) (depth_of code) (omega (arith, k.range.two)) k.good.depth

-- ---- the walk

module _ {code : List ℕ} {width : ℕ} {samples : List ℕ} {d side entries split : ℕ} where
  pub gather_start : {first : ℕ} → Sampling code width samples → d ≡ dimension_of code → side ≡ box_side (dimension_of code) (depth_of code)
      → bytes_of entries ≡ paste no_entries 0 (drop 2 code) d → split ≡ split_place d (depth_of code) → Sampled width samples 0 first
      → Gathering code width samples d side entries split first (plus_zero ∷ plus_zero ∷ plus_zero ∷ plus_zero ∷ []) first 0
  gather_start r e f g h s = record {
    ready = r;
    axes = e;
    frame = frame_made code r.passes e refl f g h;
    few = omega arith;
    size = refl;
    first_is = s;
    before_is = s;
    there = λ t l. absurd (omega arith);
    none = zeros;
  }
    where
      zeros : (a : ℕ) → a < 4 → ((t : ℕ) → t < 0 → place_in code t ≢ a) → get_or (plus_zero ∷ plus_zero ∷ plus_zero ∷ plus_zero ∷ []) a nan ≡ plus_zero
      zeros zero l n = refl
      zeros (suc zero) l n = refl
      zeros (suc (suc zero)) l n = refl
      zeros (suc (suc (suc zero))) l n = refl
      zeros (suc (suc (suc (suc a)))) l n = absurd (omega arith)

  module _ {first before i : ℕ} {on : List Float} (g : Gathering code width samples d side entries split first on before i) where
    signed : Signed (dimension_of code) (entries_of code)
    signed = code_signed code g.frame.passing

    few_axes : dimension_of code ≤ 4
    few_axes = (code_dimension code g.frame.passing).few

    module _ (l : i < d) where
      in_code : i < dimension_of code
      in_code = omega (arith, l, g.axes)

      pub gather_sample : (width ≤ 3) × (width * suc (i + 1) ≤ length samples)
      gather_sample = ready_sample g.ready (omega (arith, in_code))

      pub gather_entry : i < 4
      gather_entry = omega (arith, in_code, few_axes)

      pub gather_power : Power side
      gather_power = rw g.frame.side_is (ready_power g.ready)

      module _ {e : ℕ} (b : e ≡ get_or (bytes_of entries) i 0) where
        entry_is : e ≡ get_or (entries_of code) i 0
        entry_is = b ∙ g.frame.entries_are i

        pub gather_axis : 1 ≤ axis e
        gather_axis = rw entry_is (signed.low i in_code)

        pub gather_place : {p : ℕ} → p ≡ axis e - 1 → p < 4
        gather_place q = omega (arith, q, subst (λ (x : ℕ). axis x ≤ dimension_of code) (sym entry_is) (signed.high i in_code), few_axes)

        module _ {next p : ℕ} {x : Float} (s : Sampled width samples (i + 1) next) (q : p ≡ axis e - 1)
            (is : Quotient x (by_sign (minus e) (rising_by split i next) (falling_by split i first before)) side) where
          p_is : p ≡ place_in code i
          p_is = q ∙ ap (λ (x : ℕ). axis x - 1) entry_is

          along_is : Quotient x (along_entry split (parts_of code) (sample_at width samples) i) side
          along_is = unfold along_entry rising falling parts_of in rw (← entry_is, ← rw (add-one i) at s.0, ← g.first_is.0, ← g.before_is.0) is

          others : (t : ℕ) → t < i → place_in code t ≢ p
          others t n z = omega (arith, n, signed.apart t i (omega (arith, in_code)) in_code (omega (arith, z, p_is, signed.low t (omega (arith, in_code)), signed.low i in_code)))

          pub gather_next : Gathering code width samples d side entries split first (set on p x) next (i + 1)
          gather_next = rw (add-one i) (record {
            ready = g.ready;
            axes = g.axes;
            frame = g.frame;
            few = l;
            size = length-set on p x ∙ g.size;
            first_is = g.first_is;
            before_is = rw (add-one i) at s;
            there = λ t n. there t (ℕ_discrete t i) n;
            none = λ a n h. get_or-set_other on p a x nan (λ z. h i (omega arith) (sym p_is ∙ sym z)) ∙ g.none a n (λ t m. h t (omega arith));
          })
            where
              there : (t : ℕ) → Dec (t ≡ i) → t < suc i → Quotient (get_or (set on p x) (place_in code t) nan) (along_entry split (parts_of code) (sample_at width samples) t) side
              there t (yes z) n = rw (z, ← p_is, get_or-set_same on p x nan (omega (arith, g.size, gather_place q))) along_is
              there t (no z) n = rw (get_or-set_other on p (place_in code t) x nan (others t (omega arith))) (g.there t (omega arith))

    -- at the end each axis has its slope
    module _ (l : d ≤ i) (root path : List ℕ) (o : IsCodeOf code root path) where
      one : OneSlope root path (sample_at width samples)
      one = one_slope root path o.good_root o.good_path.depth (sample_at width samples)

      axes_are : dimension_of code ≡ length root
      axes_are = ap dimension_of o.is ∙ dimension_of_code root path

      depth_is : depth_of code ≡ length path
      depth_is = ap depth_of o.is ∙ depth_of_code root path

      parts_are : parts_of code ≡ name_of root path
      parts_are = ap parts_of o.is ∙ parts_of_code o.good_root path

      side_is : side ≡ box_side (length root) (length path)
      side_is = g.frame.side_is ∙ rw (axes_are, depth_is) refl

      split_is : split ≡ split_place (length root) (length path)
      split_is = g.frame.split_is ∙ rw (axes_are, depth_is) refl

      count : length one.numbers ≡ length root
      count = omega (arith, one.slope.count, (closed_form root path o.good_root o.good_path.depth).sized.size)

      -- the number on the axis of entry t
      number_is : (t : ℕ) → t < dimension_of code → on_axis one.numbers (axis (get_or (entries_of code) t 0)) ≡ along_entry split (parts_of code) (sample_at width samples) t
      number_is t n = ap (λ (x : ℕ). on_axis one.numbers (axis x)) entry_in ∙ one.closed t (omega (arith, axes_are)) ∙ rw (split_is, parts_are) refl
        where
          entry_in : get_or (entries_of code) t 0 ≡ entry (name_of root path) t
          entry_in = rw (← parts_are) (unfold parts_of in refl)

      component : (a : ℕ) → 1 ≤ a → a ≤ 4 → Quotient (get_or on (a - 1) nan) (on_axis one.numbers a) (box_side (length root) (length path))
      component a h n = rw (← side_is) (go (dec_le a (length root)))
        where
          has : (t : Stands (entries_of code) a (dimension_of code)) → Quotient (get_or on (a - 1) nan) (on_axis one.numbers a) side
          has t = subst (λ (b : ℕ). Quotient (get_or on (b - 1) nan) (on_axis one.numbers b) side) t.is
              (rw (number_is t.place t.below) (g.there t.place (omega (arith, t.below, g.axes))))

          past : (u : length root < a) (t : ℕ) → t < i → place_in code t ≢ a - 1
          past u t m z = omega (arith, axes_are, signed.high t (omega (arith, g.few, g.axes)))

          go : Dec (a ≤ length root) → Quotient (get_or on (a - 1) nan) (on_axis one.numbers a) side
          go (yes u) = has (stands signed a h (omega (arith, axes_are)))
          go (no u) = rw (g.none (a - 1) (omega arith) (past (omega arith)), get_or-eq_default one.numbers (pos 0) {n = a - 1} (omega (arith, count))) (zero_quotient side)

      pub gather_end : CellSlopes root path width samples (record { first = get_or on 0 nan; second = get_or on 1 nan; third = get_or on 2 nan; fourth = get_or on 3 nan })
      gather_end = record {
        numbers = one.numbers;
        linear = one.slope;
        components = record {
          first = component 1 (omega arith) (omega arith);
          second = component 2 (omega arith) (omega arith);
          third = component 3 (omega arith) (omega arith);
          fourth = component 4 (omega arith) (omega arith);
        };
      }
