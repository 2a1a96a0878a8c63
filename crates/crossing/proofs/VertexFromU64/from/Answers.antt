-- `Vertex::from` meets its contract: 16 bits of the word for each axis.
use mathlib.Core.Path.{refl}
use Rattle.crossing.specs.Unpacking.{unpacked}
use Rattle.crossing.proofs.VertexFromU64.from.Goals as goal

pub returns : goal.returns
returns c = unpacked refl refl refl refl
