-- `code_depth` meets its contract: the depth is read as it stands.
use borrow.Author.Rules.{rules}
use Rattle.bisection.specs.Codes.{depth_of}
use Rattle.codes.specs.Fronts.Laws.{front_depth_is}
use Rattle.codes.proofs.code_depth.Goals as goal

pub returns : goal.returns
unfolding depth_of
returns c = rw (front_depth_is _) (search rules)
