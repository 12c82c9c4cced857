pub mod Bodies  -- what the tests of a body that stands say, and that it parses
pub mod Walking  -- a walk from record to record: where record k begins
pub mod Finding  -- the answer of each test; the parts at a record's places are its fields
pub mod Joined  -- the rates of the records, end to end in a buffer
