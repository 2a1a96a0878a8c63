-- A vertex by value, from the word of a point.
use Rattle.std.specs.Prelude.{◌≡◌, ℕ, ◌+◌, ◌*◌, ◌/◌, ◌%◌, ◌^◌, ◌≤◌, ◌<◌, length, get_or}
use Rattle.std.proofs.Common.{arith}
use Rattle.bisection.specs.Cells.{Point}
use Rattle.corners.specs.PointWords.{point_word, in_word, in_point}
use Rattle.crossing.specs.declared.Vertex.{Vertex}
use Rattle.crossing.specs.Outcome.{by_axes}

-- whatever point's word it is: one of up to four axes, with coordinates of two bytes
pub record Unpacked (point : ℕ) (r : Vertex) : Type 0 where
  pub is : (v : Point) → length v ≤ 4 → ((n : ℕ) → get_or v n 0 < 65536) → point ≡ point_word v → r ≡ by_axes v

pub unpacked : {point a b c e : ℕ} → a ≡ point % 65536 → b ≡ point / 2 ^ 16 % 65536 → c ≡ point / 2 ^ 32 % 65536 → e ≡ point / 2 ^ 48
    → Unpacked point (record { first = a; second = b; third = c; fourth = e })
unfolding by_axes in_word
unpacked {point} {a} {b} {c} {e} p q r s = record { is = λ v few small w. same v small (omega (arith, w, in_point v few)) }
  where
    same : (v : Point) → ((n : ℕ) → get_or v n 0 < 65536) → point ≡ get_or v 0 0 + 65536 * get_or v 1 0 + 4294967296 * get_or v 2 0 + 281474976710656 * get_or v 3 0
        → record { first = a; second = b; third = c; fourth = e } ≡ by_axes v
    same v small w = λ i. record { first = first i; second = second i; third = third i; fourth = fourth i }
      where
        first : a ≡ get_or v 0 0
        first = omega (arith, p, small 0)

        second : b ≡ get_or v 1 0
        second = omega (arith, q, small 0, small 1)

        third : c ≡ get_or v 2 0
        third = omega (arith, r, small 0, small 1, small 2)

        fourth : e ≡ get_or v 3 0
        fourth = omega (arith, s, small 0, small 1, small 2, small 3)
