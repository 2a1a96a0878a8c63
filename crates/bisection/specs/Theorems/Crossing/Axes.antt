-- One axis of two frames that share a facet's vertices: where it stands in the second, and which sides it has there,
-- told by the first vertex at which it leaves its near side.
use Rattle.std.specs.Prelude.{◌≡◌, ℕ, suc, ◌%◌, ◌≤◌, ◌<◌}
use Rattle.bisection.specs.Theorems.Crossing.Rows.{Sides}

-- an axis with the same place and sides
pub record Same (p x y p' x' y' : ℕ) : Type 0 where
  pub at : p' ≡ p
  pub near : x' ≡ x
  pub far : y' ≡ y

-- an axis keeps its place, or goes from one of two places to the other, with what is known of its sides
pub data Exchange (u w p p' : ℕ) (Stay Go : Type 0) : Type 0 where
  stay : p' ≡ p → Stay → Exchange u w p p' Stay Go
  up : p ≡ u → p' ≡ w → Go → Exchange u w p p' Stay Go
  down : p ≡ w → p' ≡ u → Go → Exchange u w p p' Stay Go

-- one axis of a good cell
pub record Fits (d k p x y : ℕ) : Type 0 where
  pub first : 1 ≤ p
  pub last : p ≤ d
  pub sides : Sides x y
  pub even : p ≤ k → x % 2 ≡ 0

-- turned corners
pub data Turn (k p x y p' x' y' : ℕ) : Type 0 where
  first : p ≡ 1 → p' ≡ suc k → x' ≡ y → y' ≡ x → Turn k p x y p' x' y'
  inner : 2 ≤ p → p ≤ k → suc p' ≡ p → x' ≡ x → y' ≡ y → Turn k p x y p' x' y'
  edge : p ≡ suc k → k ≤ p' → p' ≤ suc k → x' ≡ x → y' ≡ y → Turn k p x y p' x' y'
  past : suc k < p → p' ≡ p → x' ≡ x → y' ≡ y → Turn k p x y p' x' y'
