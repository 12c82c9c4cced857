pub mod Tests  -- what tests joined say, and when two tests are the same
pub mod Bytes  -- lists of bytes: their parts and places, equal ones, digits and their numbers
pub mod Facts  -- what the tests of `rules` on names, bodies and dates say, fact by fact
pub mod Options  -- what equations between options say
