-- `position_of` meets its contract: the steps of the entries are taken back, and the root numbered.
use mathlib.Core.Path.{◌≡◌}
use native.Mathlib.Nat.{div-one}
use Rattle.entries.specs.Words.{bytes_of}
use Rattle.positions.specs.Places.{place_axes, place_deep, place_small, place_ready, place_is}
use borrow.Author.Rules.{rules}
use Rattle.positions.proofs.position_of.Goals as goal

pub overflow_sub-greatest_depth : goal.overflow_sub-greatest_depth
overflow_sub-greatest_depth c = place_deep _ c.bytes-bytes.ensures.passes c.dim-dim.ensures c.depth-depth.ensures c.greatest_depth.ensures

pub power-size-requires : goal.power-size-requires
power-size-requires c = place_small _ c.bytes-bytes.ensures.passes c.dim-dim.ensures c.depth-depth.ensures c.greatest_depth.ensures

pub word_in-requires : goal.word_in-requires
word_in-requires c = rw c.bytes-bytes.ensures.is (place_axes _ c.bytes-bytes.ensures.passes c.dim-dim.ensures c.depth-depth.ensures c.axes-axes.ensures)

pub walk-origin-requires : goal.walk-origin-requires
walk-origin-requires c = rw c.bytes-bytes.ensures.is
    (place_ready _ c.bytes-bytes.ensures.passes c.dim-dim.ensures c.depth-depth.ensures c.axes-axes.ensures (rw c.bytes-bytes.ensures.is at c.word_in.ensures) c.greatest_depth.ensures c.power-size.ensures)

pub returns : goal.returns
returns c = let bytes : c.to_le_bytes.result ≡ bytes_of c.walk-origin.result.root = simp div-one c.to_le_bytes.ensures in
    place_is _ c.bytes-bytes.ensures.passes c.dim-dim.ensures c.depth-depth.ensures c.axes-axes.ensures (rw c.bytes-bytes.ensures.is at c.word_in.ensures) c.greatest_depth.ensures c.power-size.ensures
    (rw c.bytes-bytes.ensures.is at c.walk-origin.ensures) bytes c.number.ensures
