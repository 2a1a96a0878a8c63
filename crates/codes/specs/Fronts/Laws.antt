-- The laws of a code at the front of bytes: how its head and what stands inside make up the code's refusal, and what becomes of
-- a code that passes where more bytes follow it. The first five open the names for the code layer itself.
use Rattle.std.specs.Prelude.{◌≡◌, true, List, ◌++◌, ℕ, ◌≤◌, length, drop}
use Rattle.std.proofs.Math.Path.{refl, sym, ap}
use Rattle.std.proofs.Common.{◌∙◌, take-append-drop}
use native.Mathlib.Omega.{arith}
use Rattle.std.proofs.Math.ListN.{take, length-take, get_or-append}
use Rattle.std.proofs.Math.Seq.{take_at, get_or-take}
use borrow.Author.Tests.{leb-true, le-leb, eqb-true, eq-eqb}
use Rattle.dimension.specs.Sizes.{is_dimension, code_length}
use Rattle.bisection.specs.Codes.{IsCodeOf, dimension_of, depth_of}
use Rattle.bisection.specs.Refusals.{done, head_refusal, length_of, body_refusal, code_refusal}
use Rattle.bisection.specs.Theorems.Ladders.{holds, past}
use Rattle.bisection.proofs.Theorems.Ladders.{first_is, own_last, held_at}
use Rattle.bisection.proofs.Theorems.CodePaths.{length_root, length_path_of}
use Rattle.codes.specs.Fronts.{front_refusal, front_dimension, front_depth, front_length, front_code, inner_refusal, Headed}

pub front_refusal_is : (bs : List ℕ) → front_refusal bs ≡ head_refusal bs
unfolding front_refusal
front_refusal_is bs = refl

pub front_dimension_is : (bs : List ℕ) → front_dimension bs ≡ dimension_of bs
unfolding front_dimension
front_dimension_is bs = refl

pub front_depth_is : (bs : List ℕ) → front_depth bs ≡ depth_of bs
unfolding front_depth
front_depth_is bs = refl

pub front_length_is : (bs : List ℕ) → front_length bs ≡ code_length (dimension_of bs) (depth_of bs)
unfolding length_of front_length
front_length_is bs = refl

pub inner_refusal_is : (code : List ℕ) → inner_refusal code ≡ body_refusal code
unfolding inner_refusal
inner_refusal_is code = refl

-- bytes with the same first two have the same head
module _ (bs cs : List ℕ) (d : dimension_of bs ≡ dimension_of cs) (D : depth_of bs ≡ depth_of cs) where
  same_head : head_refusal bs ≡ head_refusal cs
  unfolding head_refusal
  same_head = rw (d, D) refl

  same_length : length_of bs ≡ length_of cs
  unfolding length_of
  same_length = rw (d, D) refl

pub front_two : (bs : List ℕ) → 2 ≤ front_length bs
unfolding front_length length_of code_length
front_two bs = omega arith

pub front_known : (bs : List ℕ) → front_refusal bs ≡ done → is_dimension (front_dimension bs) ≡ true
unfolding front_refusal front_dimension head_refusal
front_known bs e = held_at _ tt e 0

-- the code at the front of bytes has their head
module _ (bs : List ℕ) where
  in_dimension : dimension_of (front_code bs) ≡ dimension_of bs
  unfolding front_code dimension_of
  in_dimension = get_or-take (front_length bs) bs 0 0 (omega (arith, front_two bs))

  in_depth : depth_of (front_code bs) ≡ depth_of bs
  unfolding front_code depth_of
  in_depth = get_or-take (front_length bs) bs 1 0 (omega (arith, front_two bs))

  pub front_code_dimension : front_dimension (front_code bs) ≡ front_dimension bs
  unfolding front_dimension
  front_code_dimension = in_dimension

  pub front_is_front : take (front_length bs) bs ≡ front_code bs
  unfolding front_code
  front_is_front = refl

  pub front_code_rest : bs ≡ front_code bs ++ drop (front_length bs) bs
  unfolding front_code
  front_code_rest = sym (take-append-drop (front_length bs) bs)

  module _ (room : front_length bs ≤ length bs) where
    pub front_code_length : length (front_code bs) ≡ front_length bs
    unfolding front_code
    front_code_length = length-take (front_length bs) bs ∙ omega arith

    pub front_headed : front_refusal bs ≡ done → Headed (front_code bs)
    unfolding front_refusal front_length
    front_headed e = record { head = same_head (front_code bs) bs in_dimension in_depth ∙ e; size = front_code_length ∙ sym (same_length (front_code bs) bs in_dimension in_depth) }

-- the head passed, what is left of a code's refusal is what stands inside
pub headed_refusal : (code : List ℕ) → Headed code → code_refusal code ≡ inner_refusal code
unfolding code_refusal front_refusal front_length inner_refusal
headed_refusal code h = first_is (
    holds (le-leb 2 (length code) (omega (arith, h.size, front_two code)))
    (past h.head
    (holds (eq-eqb (length code) (length_of code) h.size)
    (own_last (body_refusal code)))))

-- a code that passes, and any bytes behind it
pub record Fronted (code rest : List ℕ) : Type 0 where
  pub refusal : front_refusal (code ++ rest) ≡ done
  pub dimension : front_dimension (code ++ rest) ≡ front_dimension code
  pub depth : front_depth (code ++ rest) ≡ front_depth code
  pub size : front_length (code ++ rest) ≡ length code
  pub code_is : front_code (code ++ rest) ≡ code
  pub inner : inner_refusal code ≡ done

module _ (code : List ℕ) (e : code_refusal code ≡ done) where
  pub code_two : 2 ≤ length code
  unfolding code_refusal
  code_two = leb-true 2 (length code) (held_at _ tt e 0)

  pub code_headed : Headed code
  unfolding code_refusal front_refusal front_length
  code_headed = record { head = held_at _ tt e 1; size = eqb-true (length code) (length_of code) (held_at _ tt e 2) }

  module _ (rest : List ℕ) where
    along_dimension : dimension_of (code ++ rest) ≡ dimension_of code
    unfolding dimension_of
    along_dimension = get_or-append code rest 0 0 (omega (arith, code_two))

    along_depth : depth_of (code ++ rest) ≡ depth_of code
    unfolding depth_of
    along_depth = get_or-append code rest 0 1 (omega (arith, code_two))

    along_length : front_length (code ++ rest) ≡ length code
    unfolding front_length
    along_length = same_length (code ++ rest) code along_dimension along_depth ∙ sym code_headed.size

    pub code_fronted : Fronted code rest
    unfolding code_refusal front_refusal front_dimension front_depth front_code inner_refusal
    code_fronted = record {
      refusal = same_head (code ++ rest) code along_dimension along_depth ∙ code_headed.head;
      dimension = along_dimension;
      depth = along_depth;
      size = along_length;
      code_is = ap (λ (n : ℕ). take n (code ++ rest)) along_length ∙ take_at code rest (length code) refl;
      inner = held_at _ tt e 3;
    }

-- the dimension is the number of the root's axes, the depth that of the path's steps; they give the code its length
pub front_root : {code root path : List ℕ} → IsCodeOf code root path → front_dimension code ≡ length root
unfolding front_dimension
front_root c = sym (length_root c)

pub front_path : {code root path : List ℕ} → IsCodeOf code root path → front_depth code ≡ length path
unfolding front_depth
front_path c = sym (length_path_of c)

pub code_length_is : {code root path : List ℕ} → IsCodeOf code root path → code_refusal code ≡ done → length code ≡ code_length (length root) (length path)
code_length_is {code} c e = (code_headed code e).size ∙ front_length_is code ∙ rw (← length_root c, ← length_path_of c) refl
