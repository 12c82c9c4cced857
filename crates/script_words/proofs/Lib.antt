-- The laws of this crate; beside them stands a folder for each function that has a proof.
pub mod WordLaws  -- words: a byte found, spaces counted, the rest behind a word
pub mod NumberLaws  -- a number read digit by digit, below 2 ^ 64
