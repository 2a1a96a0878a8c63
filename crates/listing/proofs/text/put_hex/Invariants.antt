-- The loop of `put_hex` keeps: the bytes from i on are left.
use Rattle.std.proofs.Common.{◌+◌, ◌*◌, drop}
use Rattle.common.specs.Putting.{Putting}
use Rattle.listing.specs.Texts.{hex}
use Rattle.listing.proofs.text.put_hex.Given as goal

abbrev pub invariant-loop-i : goal.invariant-loop-i
invariant-loop-i l = Putting l.at (hex l.bytes) l.initial.out (l.at + 2 * l.i) (hex (drop l.i l.bytes)) l.out
