-- Entries by value. All of it is checked, none is believed.
-- Four entries as a list, the signed permutation that they hold, and what the functions answer.
pub mod Fours
-- The laws of each function, and of entries that hold a signed permutation.
pub mod Laws
-- The orthant of entries, joined from the parts of each.
pub mod Parts
-- Entries as one word.
pub mod Words
