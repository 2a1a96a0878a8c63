-- `Dim::longest_code` meets its contract: it is the code length at the greatest depth.
use mathlib.Core.Path.{◌∙◌, ap}
use Rattle.dimension.specs.Sizes.{longest_code, code_length, axes_of}
use Rattle.dimension.proofs.Dim.longest_code.Goals as goal

pub returns : goal.returns
returns c = unfold longest_code in c.code_length.ensures ∙ ap (code_length (axes_of c.args.self)) c.greatest_depth.ensures
