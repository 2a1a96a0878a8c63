-- `answer` meets its contract: the place, the length, and the new vertex as the code across gives it.
use Rattle.std.proofs.Common.{ap, length}
use Rattle.crossing.proofs.LandingLaws.{answer_whole}
use Rattle.crossing.proofs.answer.Goals as goal

pub vertex-requires : goal.vertex-requires
vertex-requires c = (c.lows_across-lows.ensures, rw c.from.ensures c.requires.place)

pub returns : goal.returns
returns c = answer_whole c.requires c.bytes.ensures.passes c.from.ensures c.vertex.ensures c.into.ensures (ap length c.bytes.ensures.is)
