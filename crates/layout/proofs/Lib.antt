pub mod Counts  -- a record's rate count, length and checksum
pub mod Fronts  -- the record at the front of bytes: its parts, and what follows it
pub mod Starts  -- starts, next accesses, segments' months; whole months and a 203's dates
