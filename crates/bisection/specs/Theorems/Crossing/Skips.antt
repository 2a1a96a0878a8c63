-- The places of a cell but one, in order: the places of a facet.
use Rattle.std.specs.Prelude.{◌≡◌, cond, ℕ, suc, ◌<◌, ltb}

-- the places but i, in order
unfoldable pub skip : ℕ → ℕ → ℕ
skip i t = cond (ltb t i) t (suc t)

-- every other place is met
pub record Skipped (d i u : ℕ) : Type 0 where
  pub from : ℕ
  pub below : from < d
  pub is : skip i from ≡ u
