-- `cross_checked` meets its contract: refused, or the answer where it landed.
use Rattle.crossing.proofs.cross_checked.Goals as goal

pub answer-requires : goal.answer-requires
answer-requires c = rw (c.known.ensures, c.bytes-length.ensures.is) c.in_ok-landing.ensures.ready

pub returns : goal.returns
returns c = c.in_ok-landing.ensures.says _ (rw (c.known.ensures, c.bytes-length.ensures.is) at c.answer.ensures)
