-- The moves of a crossing on a code in a buffer. All of it is checked, none is believed.
-- The orthants changed by carry: where it ends; four of them as a word.
pub mod Carrying
pub mod CarryWords
-- The entries rearranged.
pub mod Rearranging
