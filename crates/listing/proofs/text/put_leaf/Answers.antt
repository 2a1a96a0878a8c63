-- `put_leaf` meets its contract: four texts, one behind the other.
use Rattle.listing.specs.Lines.{leaf_puts}
use Rattle.listing.proofs.text.put_leaf.Goals as goal

pub returns : goal.returns
returns c = leaf_puts _ _ c.requires c.put_decimal-at.ensures c.put-at.ensures c.put_hex-at.ensures c.put.ensures
