-- `put` meets its contract: what it copies into the buffer is the text.
use Rattle.std.proofs.Common.{refl, ◌∙◌}
use Rattle.common.specs.Putting.{put_copy}
use Rattle.listing.proofs.text.put.Goals as goal

pub returns : goal.returns
returns c = record { next = refl; is = c.copy.ensures ∙ put_copy c.args.at _ c.args.bytes.now c.args.out.now refl }
