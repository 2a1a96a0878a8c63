-- `put_line` meets its contract: three texts, one behind the other.
use Rattle.listing.specs.Lines.{number_puts}
use Rattle.listing.proofs.text.put_line.Goals as goal

pub returns : goal.returns
returns c = number_puts _ _ c.requires c.put-at.ensures c.put_decimal-at.ensures c.put.ensures
