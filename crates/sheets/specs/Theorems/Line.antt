-- The frontier on the line: a leaf starts where the frontier does, and the next frontier starts where the leaf ends.
use Rattle.std.specs.Prelude.{◌≡◌, Bool, true, false}
use Rattle.std.proofs.Math.Path.{refl}
use Rattle.std.proofs.Common.{sym, ap, ◌∙◌, arith, pow-add}
use mathlib.Core.List.{List, [], ◌∷◌}
use Prim.Native.Nat.{ℕ, suc, ◌+◌, ◌-◌, ◌*◌, ◌^◌, ◌≤◌}
use Rattle.std.proofs.Math.Nat.{mul_assoc, add-mul, mul_left_comm}
use Rattle.std.proofs.Math.ListN.{length}
use Rattle.positions.specs.Positions.{start_of}
use Rattle.next.specs.Paths.{steps, zeros, zeros_length, number, number_zeros, half_part, start_number}
use Rattle.sheets.specs.Theorems.Frontier.{state, advance}

module _ (M : ℕ) where
  -- the frontier followed by zeros starts where the frontier does
  pub start_zeros : (n : ℕ) (p : List Bool) → n + length p ≤ M → start_of M (steps (zeros n p)) ≡ start_of M (steps p)
  start_zeros n p h = start_number M (zeros n p) (omega (arith, zeros_length n p)) ∙ rw (number_zeros n p, zeros_length n p)
      (mul_assoc (number p) (2 ^ n) (2 ^ (M - (n + length p))) ∙ ap (λ (x : ℕ). number p * x) (sym parts)) ∙ sym (start_number M p (omega arith))
    where
      sum : M - length p ≡ n + (M - (n + length p))
      sum = omega arith

      parts : 2 ^ (M - length p) ≡ 2 ^ n * 2 ^ (M - (n + length p))
      parts = ap (λ (x : ℕ). 2 ^ x) sum ∙ pow-add 2 n (M - (n + length p))

  -- what follows a cell: its root goes on at the place where the cell ends, or the stretch is over
  pub data Advanced (r : List ℕ) (rs : List (List ℕ)) (q : List Bool) : Type 0 where
    same_root : (p : List Bool) → advance r rs q ≡ state (r ∷ rs) p → length p ≤ M → start_of M (steps q) + 2 ^ (M - length q) ≡ start_of M (steps p) → Advanced r rs q
    root_over : advance r rs q ≡ state rs [] → start_of M (steps q) + 2 ^ (M - length q) ≡ 2 ^ M → Advanced r rs q

  pub advanced : (r : List ℕ) (rs : List (List ℕ)) (q : List Bool) → length q ≤ M → Advanced r rs q
  unfolding advance
  advanced r rs [] l = root_over refl (unfold start_of steps in whole (M - 0) (omega arith))
    where
      whole : (n : ℕ) → n ≡ M → 0 + 2 ^ n ≡ 2 ^ M
      whole n e = rw e (omega arith)
  advanced r rs (false ∷ p) l = same_root (true ∷ p) refl l (rw (start_number M (false ∷ p) l, start_number M (true ∷ p) l) (unfold number in join (number p) (2 ^ (M - suc (length p)))))
    where
      join : (x z : ℕ) → (0 + 2 * x) * z + z ≡ (1 + 2 * x) * z
      join x z = rw (add-mul 0 (2 * x) z, add-mul 1 (2 * x) z) (omega arith)
  advanced r rs (true ∷ p) l = again (advanced r rs p (omega arith))
    where
      join : (x y z : ℕ) → y ≡ 2 * z → (1 + 2 * x) * z + z ≡ x * y + y
      join x y z e = rw (e, add-mul 1 (2 * x) z, mul_left_comm x 2 z, mul_assoc 2 x z) (omega arith)

      same : start_of M (steps (true ∷ p)) + 2 ^ (M - suc (length p)) ≡ start_of M (steps p) + 2 ^ (M - length p)
      same = rw (start_number M (true ∷ p) l, start_number M p (omega arith)) (unfold number in join (number p) (2 ^ (M - length p)) (2 ^ (M - suc (length p))) (half_part M p l))

      again : Advanced r rs p → Advanced r rs (true ∷ p)
      again (same_root p' a h s) = same_root p' a h (same ∙ s)
      again (root_over a s) = root_over a (same ∙ s)
