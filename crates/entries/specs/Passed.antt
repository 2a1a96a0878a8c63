-- What a check that passes tells.
use Rattle.std.specs.Prelude.{◌≡◌, List, ℕ, ◌+◌, ◌-◌, ◌*◌, ◌≤◌, length, get_or}
use Rattle.std.proofs.Common.{ap, ◌∙◌, mul_comm, arith}
use Rattle.std.proofs.Math.ListN.{length-append}
use Rattle.dimension.specs.Sizes.{code_length, longest_of_all, box_depth, split_place}
use Rattle.dimension.specs.Laws.{Dimension, dimension, code_longest, depth_parts, split_range}
use Rattle.bisection.specs.Codes.{bytes, dimension_of, depth_of, parts_of}
use Rattle.bisection.specs.Refusals.{done, code_refusal}
use Rattle.bisection.specs.Theorems.Checked.{Good}
use Rattle.bisection.proofs.Theorems.Checked.{good}

pub record Checked (code : List ℕ) : Type 0 where
  pub good : Good code
  pub size : length code ≡ code_length (dimension_of code) (depth_of code)
  pub range : Dimension (dimension_of code)

pub checked : (code : List ℕ) → code_refusal code ≡ done → Checked code
unfolding code_length
checked code e = record { good = g; size = ap length g.is ∙ size; range = dimension (dimension_of code) g.dimension }
  where
    g : Good code
    g = good code e

    size : length (bytes (dimension_of code) (depth_of code) (parts_of code)) ≡ 2 + dimension_of code + box_depth (dimension_of code) (depth_of code)
    size = unfold bytes in simp length-append (omega (arith, g.passes.signed.size, g.passes.boxes.count))

-- no code is longer than the longest
pub code_few : {code : List ℕ} → Checked code → length code ≤ longest_of_all
code_few {code} k = omega (arith, k.size, code_longest (dimension_of code) (depth_of code) k.range k.good.depth)

-- and it has a head
pub checked_two : (code : List ℕ) → code_refusal code ≡ done → 2 ≤ length code
unfolding code_length
checked_two code e = omega (arith, (checked code e).size)

-- a code's length tells its boxes, and they and its depth the split place
pub record Split (d D n k : ℕ) : Type 0 where
  pub long : 2 + d ≤ n
  pub under : d * (n - 2 - d) ≤ D
  pub few : D - d * (n - 2 - d) ≤ d
  pub is : d - (D - d * (n - 2 - d)) ≡ k

split_by_length : (d D n : ℕ) → (1 ≤ d) × (n ≡ code_length d D) → Split d D n (split_place d D)
unfolding code_length
split_by_length d D n r = record { long = omega arith; under = rw boxes (omega (arith, parts)); few = rw boxes (omega (arith, parts)); is = rw boxes (omega (arith, parts, range)) }
  where
    boxes : n - 2 - d ≡ box_depth d D
    boxes = omega arith

    parts : d * box_depth d D + (d - split_place d D) ≡ D
    parts = rw (mul_comm d (box_depth d D)) (depth_parts d D r.0)

    range : split_place d D ≤ d
    range = (split_range d D r.0).1

-- as the code reads the depth
pub split_read : (code : List ℕ) (d : ℕ) → (1 ≤ d) × (length code ≡ code_length d (depth_of code)) → {D : ℕ} → D ≡ get_or code 1 0 → Split d D (length code) (split_place d (depth_of code))
unfolding depth_of
split_read code d r f = rw f (split_by_length d (get_or code 1 0) (length code) r)
