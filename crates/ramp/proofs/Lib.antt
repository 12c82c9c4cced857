-- The laws of this crate; beside them stands a folder for each function.
pub mod Laws  -- the command over a tick's seconds: it splits at any second, stays legal, reaches a slot's goal
