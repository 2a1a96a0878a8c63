-- A code at the front of bytes, as those who read records know it: the refusal of its head, the dimension, the depth and the
-- length that the head gives it, the code itself, and the refusal of what stands inside. Above the code layer these names are shut: what is
-- known of them are the laws in Fronts/Laws.antt, and none of those says how a code is stored.
pub mod Laws
use Rattle.std.specs.Prelude.{◌≡◌, List, ℕ, Result, Ok, Err, length, take}
use Rattle.dimension.specs.Sizes.{axes_of}
use Rattle.bisection.specs.declared.Refusal.{Refusal}
use Rattle.bisection.specs.Numbers.{number_of}
use Rattle.bisection.specs.Codes.{dimension_of, depth_of}
use Rattle.bisection.specs.Refusals.{done, head_refusal, length_of, body_refusal, code_refusal}
use Rattle.entries.specs.declared.code.Code.{Code}
use Rattle.codes.specs.declared.Head.{Head}

-- the refusals 1 and 2
pub front_refusal : List ℕ → ℕ
front_refusal bs = head_refusal bs

pub front_dimension : List ℕ → ℕ
front_dimension bs = dimension_of bs

pub front_depth : List ℕ → ℕ
front_depth bs = depth_of bs

pub front_length : List ℕ → ℕ
front_length bs = length_of bs

pub front_code : List ℕ → List ℕ
front_code bs = take (front_length bs) bs

-- the refusals 4, 5 and 6 of a code
pub inner_refusal : List ℕ → ℕ
inner_refusal code = body_refusal code

-- a head that passes
pub record HeadOf (bs : List ℕ) (r : Head) : Type 0 where
  pub passes : front_refusal bs ≡ done
  pub dimension : axes_of r.dim ≡ front_dimension bs
  pub length : r.length ≡ front_length bs

-- what is told of a head: its refusal, or the dimension and the length of its code
abbrev pub HeadIs : List ℕ → Result Head Refusal → Type 0
HeadIs bs (Ok r) = HeadOf bs r
HeadIs bs (Err refusal) = number_of refusal ≡ front_refusal bs

-- a code whose head passes and gives it its length
pub record Headed (code : List ℕ) : Type 0 where
  pub head : front_refusal code ≡ done
  pub size : length code ≡ front_length code

-- bytes as a code that passes, or the refusal that they have as a code
abbrev pub ChecksAs : List ℕ → Result Code Refusal → Type 0
ChecksAs bs (Ok code) = (code ≡ bs) × (code_refusal bs ≡ done)
ChecksAs bs (Err refusal) = number_of refusal ≡ code_refusal bs
