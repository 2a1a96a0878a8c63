-- One record of components for the numbers of a slope.
use Rattle.std.specs.Prelude.{◌≡◌, List, ℕ, ◌<◌, ℤ}
use Rattle.greys.specs.Exact.{quotient_one}
use Rattle.slopes.specs.declared.Slopes.{Slopes}
use Rattle.slopes.specs.Slopes.{Components}

pub components_one : {s : ℕ} {ns : List ℤ} {x y : Slopes} → 0 < s → Components s ns x → Components s ns y → x ≡ y
components_one l c e = λ i. record {
  first = quotient_one l c.first e.first i;
  second = quotient_one l c.second e.second i;
  third = quotient_one l c.third e.third i;
  fourth = quotient_one l c.fourth e.fourth i;
}
