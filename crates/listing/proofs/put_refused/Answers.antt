-- `put_refused` meets its contract: five texts, one behind the other.
use Rattle.std.proofs.Common.{◌∙◌, arith}
use Rattle.listing.specs.Lines.{refused_puts}
use Rattle.listing.proofs.put_refused.Goals as goal

pub returns : goal.returns
returns c = refused_puts (c.from-2.ensures ∙ c.from.ensures) (omega arith) c.requires.0 c.requires.1 c.put-at.ensures c.put_decimal-at.ensures c.put-at-2.ensures c.put_decimal-at-2.ensures c.put.ensures
