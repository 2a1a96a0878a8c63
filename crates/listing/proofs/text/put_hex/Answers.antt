-- `put_hex` meets its contract.
use Rattle.listing.specs.Digits.{hexing_start, hexing_next, hexing_end}
use Rattle.listing.proofs.text.put_hex.Goals as goal

pub loop-i-init : goal.loop-i-init
loop-i-init c = hexing_start c.args.at c.args.bytes.now c.args.out.now c.requires

pub loop-i-preserved : goal.loop-i-preserved
loop-i-preserved c = hexing_next _ _ _ c.loop-i.invariant c.loop-i-test.true c.digit.ensures c.digit-in-loop-i.ensures

pub returns : goal.returns
returns c = hexing_end _ _ _ c.loop-i.invariant c.loop-i.auto.i-end c.loop-i-test.false
