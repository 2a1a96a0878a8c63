-- `unstep` meets its contract.
use mathlib.Core.Path.{ap, ◌∙◌}
use Prim.Native.Nat.{ℕ}
use Rattle.bisection.specs.Codes.{axis, minus, high}
use Rattle.bisection.specs.Refusals.{same_sign}
use Rattle.fours.specs.Words.{unstep_is}
use Rattle.fours.proofs.words.unstep.Goals as goal

pub same_sign-same-requires : goal.same_sign-same-requires
same_sign-same-requires c = rw c.byte_at.ensures (c.requires.1, c.requires.2)

pub returns : goal.returns
returns c = let told = c.same_sign-same.ensures ∙ ap (λ (x : ℕ). same_sign (minus x) (high c.args.own (axis x))) c.byte_at.ensures in
    rw (c.pick.ensures, c.pick-2.ensures) (unstep_is c.args.w c.turned_back-turned.result c.args.n c.args.own c.same_sign-same.result told c.turned_back-turned.ensures)
