-- The step of a path is a step of Maubach's bisection: the cell of a path with one step more is child 0 or child 1 of the path's
-- cell. It holds over any dimension, root and path, and said of codes over those that are good.
use Rattle.std.specs.Prelude.{◌≡◌, List, [], ◌∷◌, ◌++◌, ℕ}

-- a path that is not empty has a last step
pub record Longer (path : List ℕ) : Type 0 where
  pub front : List ℕ
  pub last : ℕ
  pub is : path ≡ front ++ last ∷ []
