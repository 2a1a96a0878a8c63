-- The slope along one entry, from the samples that the walk over the entries has at hand.
use Rattle.std.specs.Prelude.{cond, ℕ, ◌+◌, ◌*◌, ltb, eqb}

-- what rises and what falls along entry i
abbrev pub rising_by : ℕ → ℕ → ℕ → ℕ
rising_by split i next = cond (ltb i split) next (2 * next)

abbrev pub falling_by : ℕ → ℕ → ℕ → ℕ → ℕ
falling_by split i first before = before + cond (ltb i split) 0 (cond (eqb i split) first before)
