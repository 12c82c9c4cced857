-- The laws that this crate's proofs cite.
pub mod Text  -- UTF-8: a step of the walk, its end
pub mod Head  -- the six bytes before the text, and the code they hold
pub mod File  -- the form of an error file, and what it tells of the file
pub mod Told  -- an empty text is told from none by the code
