-- Bytes written to a buffer. It is checked, not believed.
-- Bytes put at a place, one part after the other.
pub mod Putting
