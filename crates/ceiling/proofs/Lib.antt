-- The laws of this crate; beside them stands a folder for each function.
pub mod Laws  -- what a slot's ceiling says of its rate
