-- The definitions of this crate.
pub mod Words
pub mod Number
