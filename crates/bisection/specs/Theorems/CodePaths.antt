-- Codes as bytes against roots and paths. Every code of a good root and a good path passes; every byte string
-- that passes is the code of exactly one good root and good path; the child's code is the step of the code, and
-- the parent's code is the one whose step it is.
use Rattle.std.specs.Prelude.{List, ℕ, suc, ◌-◌}
use Rattle.bisection.specs.Codes.{step, bytes, dimension_of, depth_of, parts_of}
use Rattle.bisection.specs.Theorems.Passing.{parent_name}
use Rattle.bisection.specs.Theorems.Paths.{path_to, root_to}

-- the root and the path of a code that passes
unfoldable pub root_of : List ℕ → List ℕ
root_of code = root_to (dimension_of code) (depth_of code) (parts_of code)

unfoldable pub path_of : List ℕ → List ℕ
path_of code = path_to (dimension_of code) (depth_of code) (parts_of code)

-- the step rule on a code's bytes
unfoldable pub child_code : ℕ → List ℕ → List ℕ
child_code b code = bytes (dimension_of code) (suc (depth_of code)) (step (dimension_of code) (depth_of code) b (parts_of code))

-- the parent's code, found by the sign of entry k
unfoldable pub parent_code : List ℕ → List ℕ
parent_code code = bytes (dimension_of code) (depth_of code - 1) (parent_name (dimension_of code) (depth_of code - 1) (parts_of code))
