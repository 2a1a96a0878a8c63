-- Along the entries. The numbers of a slope, each with its entry's sign, are p 0 less q 0, .. , p (d - 1) less q (d - 1). A vertex j up
-- to k is the first j entries' sides away from vertex 0, one past k their half sides. So the equations of vertex 0 and each other vertex
-- are equations of the first sums of p and q, and those say what p i less q i is, entry by entry.
use Rattle.std.specs.Prelude.{cond, leb, ltb, eqb}
use Prim.Native.Nat.{ℕ, suc, ◌+◌, ◌*◌, ◌/◌}

-- along entry i: what stands at vertex i + 1, twice past the split place ..
unfoldable pub rising : (ℕ → ℕ) → ℕ → ℕ → ℕ
rising f k i = cond (ltb i k) (f (suc i)) (2 * f (suc i))

-- .. less what stands at vertex i, with vertex 0 just past the split place, and twice after that
unfoldable pub falling : (ℕ → ℕ) → ℕ → ℕ → ℕ
falling f k i = f i + cond (ltb i k) 0 (cond (eqb i k) (f 0) (f i))

-- how far an entry before vertex j takes it from vertex 0
abbrev pub reach : ℕ → ℕ → ℕ → ℕ
reach s k j = cond (leb j k) s (s / 2)
