-- The laws of this crate; beside them stands a folder for each function that has a proof.
pub mod Ascii  -- ASCII digits: the number of at most four
pub mod Laws  -- what a name of the form is made of: segment, plant ID, creation time
