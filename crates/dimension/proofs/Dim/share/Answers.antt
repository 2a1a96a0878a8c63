-- `Dim::share` meets its contract, dimension by dimension.
use mathlib.Core.Path.{ap}
use native.Mathlib.Omega.{arith}
use Rattle.dimension.specs.Sizes.{axes_of}
use Rattle.dimension.proofs.Dim.share.Goals as goal

pub returns-in-Two : goal.returns-in-Two
returns-in-Two c = let two = ap axes_of c.in-Two.is in (omega (arith, two), omega (arith, two))

pub returns-in-Three : goal.returns-in-Three
returns-in-Three c = let three = ap axes_of c.in-Three.is in (omega (arith, three), omega (arith, three))

pub returns-in-Four : goal.returns-in-Four
returns-in-Four c = let four = ap axes_of c.in-Four.is in (omega (arith, four), omega (arith, four))
