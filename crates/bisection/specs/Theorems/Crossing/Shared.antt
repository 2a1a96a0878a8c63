-- The frame across has the facet's vertices, in their order. Its one other vertex is new: a frame is known by its
-- vertices, and the two frames differ. And the new place is an end of the split edge just where the old one is.
use Rattle.std.specs.Prelude.{◌≡◌, ◌⊎◌, ◌≢◌}
use Prim.Native.Nat.{ℕ}

-- the new vertex stands at an end of the split edge just where the facet's lacking one does, and else where that one does
pub record Ends (k i j : ℕ) : Type 0 where
  pub there : (i ≡ 0) ⊎ (i ≡ k) → (j ≡ 0) ⊎ (j ≡ k)
  pub back : (j ≡ 0) ⊎ (j ≡ k) → (i ≡ 0) ⊎ (i ≡ k)
  pub inner : i ≢ 0 → i ≢ k → j ≡ i
