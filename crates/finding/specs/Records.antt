-- The record at an offset, as those who read it know it: its depth is read, and gives the size of its leaf's part and the record's length.
use Rattle.std.specs.Prelude.{◌≡◌, true, List, ℕ, suc, ◌+◌, ◌-◌, ◌*◌, ◌^◌, ◌≤◌, ◌<◌, length, take, drop}
use Rattle.std.proofs.Math.Path.{refl}
use Rattle.std.proofs.Common.{ap, ◌∙◌, subst, arith, pow_mono}
use Rattle.dimension.specs.Sizes.{is_dimension, greatest_depth, code_length, most_axes}
use Rattle.dimension.specs.Laws.{dimension, depth_small, code_longest, longest_is, halvings_few}
use Rattle.bisection.specs.Roots.{roots}
use Rattle.codes.specs.Fronts.{front_depth}
use Rattle.positions.specs.Positions.{size_of}
use Rattle.sheets.specs.Sheets.{GoodSheet, leaf_in}
use Rattle.sheets.specs.StepLaws.{part_all}
use Rattle.sheets.specs.Theorems.Good.{good_tiles}
use Rattle.finding.specs.Sizes.{sizes_to, tiles_total}
use Rattle.finding.specs.Walk.{From, Here, here, leaf_good}

-- the bytes from a place on, as a slice of the sheet
abbrev pub onward : List ℕ → ℕ → List ℕ
onward sheet at = take (length sheet - at) (drop at sheet)

-- no code is long
pub code_few : (d : ℕ) {D : ℕ} → is_dimension d ≡ true → D ≤ greatest_depth d → code_length d D ≤ 21
unfolding most_axes
code_few d {D} i l = omega (arith, code_longest d D (dimension d i) l, longest_is, halvings_few)

pub good_axes : {mark : List ℕ} {width : ℕ} {sheet : List ℕ} {n d : ℕ} (g : GoodSheet mark width sheet n) → g.dimension ≡ d → is_dimension d ≡ true
good_axes g e = subst (λ (n : ℕ). is_dimension n ≡ true) e g.has_dimension

-- the leaves fill all stretches
pub good_total : {mark : List ℕ} {width : ℕ} {sheet : List ℕ} {n d : ℕ} (g : GoodSheet mark width sheet n) → g.dimension ≡ d → sizes_to (greatest_depth d) g.cells (length g.cells) ≡ length (roots d) * 2 ^ greatest_depth d
good_total g e = subst (λ (n : ℕ). sizes_to (greatest_depth n) g.cells (length g.cells) ≡ length (roots n) * 2 ^ greatest_depth n) e (omega (arith, tiles_total (good_tiles g)))

pub good_stretch : (d : ℕ) → is_dimension d ≡ true → 2 * 2 ^ greatest_depth d < 2 ^ 64
good_stretch d i = omega (arith, pow_mono {i = greatest_depth d} {j = 60} (depth_small d (dimension d i)))

-- a record of a good sheet of d axes
pub record AtRecord (mark : List ℕ) (width : ℕ) (sheet : List ℕ) (d number offset : ℕ) : Type 0 where
  pub count : ℕ
  pub good : GoodSheet mark width sheet count
  pub axes : good.dimension ≡ d
  pub long : length sheet < 2 ^ 64
  pub small : number < length good.cells
  pub at : From good number offset

module _ {mark : List ℕ} {width : ℕ} {sheet : List ℕ} {d number offset : ℕ} (r : AtRecord mark width sheet d number offset) where
  it : Here r.good number offset
  it = here r.good r.small r.at

  pub record_known : is_dimension d ≡ true
  record_known = good_axes r.good r.axes

  pub record_two : offset + length mark + 2 ≤ length sheet
  record_two = it.two

  pub record_stretch : 2 * 2 ^ greatest_depth d < 2 ^ 64
  record_stretch = good_stretch d record_known

  module _ {depth : ℕ} (is : depth ≡ front_depth (onward sheet (offset + length mark))) where
    pub record_depth : depth ≡ length (leaf_in r.good.cells number).path
    record_depth = is ∙ ap front_depth (part_all sheet (offset + length mark)) ∙ it.depth_is

    pub record_deep : depth ≤ greatest_depth d
    record_deep = let c = leaf_good r.good number r.small in
        omega (arith, record_depth, subst (λ (n : ℕ). length (leaf_in r.good.cells number).path ≤ greatest_depth n) (c.1 ∙ r.axes) c.0.good_path.depth)

    module _ {size : ℕ} (power : size ≡ 2 ^ (greatest_depth d - depth)) where
      pub record_size : size ≡ size_of (greatest_depth d) (leaf_in r.good.cells number).path
      record_size = unfold size_of in power ∙ rw record_depth refl

      pub record_part : size ≤ 2 ^ greatest_depth d
      record_part = rw power (pow_mono {i = greatest_depth d - depth} {j = greatest_depth d} (omega arith))

    module _ {step : ℕ} (is_step : step ≡ length mark + (code_length d depth + width * suc d)) where
      step_is : step ≡ length mark + code_length r.good.dimension (length (leaf_in r.good.cells number).path) + width * suc r.good.dimension
      step_is = is_step ∙ rw (← r.axes, record_depth) (omega arith)

      pub record_room : offset + step ≤ length sheet
      record_room = rw step_is it.room

      pub record_fits : offset + step < 2 ^ 64
      record_fits = omega (arith, record_room, r.long)

      pub record_less : length sheet - (offset + step) < length sheet - offset
      record_less = unfold code_length in omega (arith, record_room, is_step, r.at.inside)

      pub record_next : From r.good (suc number) (offset + step)
      record_next = rw step_is it.next
