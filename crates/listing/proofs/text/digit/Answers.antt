-- `digit` meets its contract: the table holds the digit of each number below 16.
use native.Mathlib.Omega.{arith}
use Rattle.std.proofs.lemmas.List.FromFn.{get_or-map-range_with_len}
use Rattle.listing.specs.Texts.{digit}
use Rattle.listing.proofs.text.digit.Goals as goal

pub returns : goal.returns
unfolding digit
returns c = rw c.from.ensures (get_or-map-range_with_len digit 0 16 c.args.n _ 0 c.requires (omega arith))
