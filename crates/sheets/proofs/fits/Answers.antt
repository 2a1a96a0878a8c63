-- `fits` meets its contract: the samples of a record that matches may be cut short.
use Rattle.sheets.specs.StepLaws.{unfit_short}
use Rattle.sheets.proofs.fits.Goals as goal

pub returns-then-rest-code : goal.returns-then-rest-code
returns-then-rest-code c = unfit_short c.in_ok-rest.ensures c.in_ok-code.ensures c.samples_length_in.ensures.0 c.if-rest-code.true
