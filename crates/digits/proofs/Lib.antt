pub mod Parts  -- parts of a list of bytes: lengths, parts of parts, what holds of every byte
pub mod Scan  -- a loop over bytes by an index: the rest from i on, at i + 1 and at the end; digits by the byte of 0
pub mod Placing  -- bytes put into a buffer, one run after the other
