-- Steps of the bisection on codes in lent buffers. All of it is checked, none is believed.
-- Bytes in a buffer; an orthant put, entries written.
pub mod Copying
pub mod Steps
-- Child and parent as they are written; whole paths down and up.
pub mod Relatives
pub mod Parents
pub mod Descents
pub mod Above
pub mod Climbs
pub mod Ascents
