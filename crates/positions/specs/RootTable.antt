-- Where the roots of each dimension begin in the table of all roots.
use Rattle.std.specs.Prelude.{ℕ, zero, suc}

-- where the roots of d axes begin
abbrev pub first_row : ℕ → ℕ
first_row zero = 0
first_row (suc zero) = 0
first_row (suc (suc zero)) = 0
first_row (suc (suc (suc zero))) = 2
first_row (suc (suc (suc (suc d)))) = 8
