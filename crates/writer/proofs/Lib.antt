-- The laws of this crate; beside them stands a folder for each function that has a proof.
pub mod Numbers  -- a number put as digits, the last one first
pub mod Records  -- a record's bytes from its parts, and its length
pub mod Months  -- the months of a body, their rates end to end: what is left after some
pub mod Outputs  -- the body of a plan's records, its length, its place
