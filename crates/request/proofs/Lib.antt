-- The laws of this crate; beside them stands a folder for each function that has a proof.
pub mod RequestLaws  -- a request's bytes, written one after another, and what the checks before them say
