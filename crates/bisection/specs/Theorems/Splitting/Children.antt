-- A child by its places. Of the two ends of the split edge child b lacks one and keeps the other. At place k stands the middle of that
-- edge; the child's other vertices are the cell's but for the end that it lacks, in order.
use Rattle.std.specs.Prelude.{ℕ, zero, suc, ◌-◌}

-- the place in the cell of the end that child b lacks, and of the end that it keeps
abbrev pub lacks : ℕ → ℕ → ℕ
lacks zero k = k
lacks (suc b) k = 0

abbrev pub keeps : ℕ → ℕ → ℕ
keeps zero k = 0
keeps (suc b) k = k

-- the place in the child of the end that it keeps: the facet opposite is the one that the two children share
abbrev pub kept_at : ℕ → ℕ → ℕ
kept_at zero k = 0
kept_at (suc b) k = k - 1
