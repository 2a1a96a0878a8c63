-- `cross_inside` meets its contract: refusal 11, or the code copied, with its entries rearranged; there is always a cell across.
use Rattle.crossing.proofs.StayingLaws.{staying_room, staying_two, staying_four, staying_put, staying_few, staying_long, staying_most, staying_short, staying_movable, staying_done}
use borrow.Author.Rules.{rules}
use Rattle.crossing.proofs.cross_inside.Goals as goal

pub returns-then-out-length : goal.returns-then-out-length
returns-then-out-length c = search (rules, staying_short)

pub entries_in-requires : goal.entries_in-requires
entries_in-requires c = search (rules, staying_two, staying_four, staying_room)

pub own_byte-requires : goal.own_byte-requires
own_byte-requires c = search (rules, staying_few, staying_room)

pub rearranged-moved-requires : goal.rearranged-moved-requires
rearranged-moved-requires c = search (rules, staying_movable)

pub copy_front-requires : goal.copy_front-requires
copy_front-requires c = search (rules, staying_long, staying_most)

pub write-requires : goal.write-requires
write-requires c = search (rules, staying_two, staying_four, staying_put)

pub returns : goal.returns
returns c = search (rules, staying_done)
