-- The laws of this crate; beside them stands a folder for each function that has a proof.
pub mod Scan  -- the loops over an ID and a MAC: weighted sum, hex digits
pub mod Laws  -- what a valid plant has, what installing leaves, the settings' ranges
