-- `flip` meets its contract: the shifted bit fits a byte, and xor flips it alone.
use Rattle.moves.specs.CarryWords.{flipped_as}
use Rattle.moves.proofs.carries.flip.Goals as goal

pub returns : goal.returns
returns c = flipped_as c.args.orthant c.args.axis c.requires.0 c.requires.1
