-- A crossing that stays in the box: every other facet. The entries are rearranged, the orthants stay, and there is
-- always a cell across.
use Rattle.std.specs.Prelude.{◌≡◌, List, ℕ, ◌<◌}
use Rattle.dimension.specs.Sizes.{split_place}
use Rattle.bisection.specs.Codes.{dimension_of, depth_of}
use Rattle.bisection.specs.Refusals.{done, code_refusal}

pub record Staying (code : List ℕ) (d k i : ℕ) : Type 0 where
  pub passes : code_refusal code ≡ done
  pub axes : d ≡ dimension_of code
  pub split : k ≡ split_place (dimension_of code) (depth_of code)
  pub inside : i < d
  pub first : i ≡ 0 → k < d
