-- The definitions that this crate's contracts cite.
pub mod Walk
pub mod Head
pub mod Code
pub mod Told
