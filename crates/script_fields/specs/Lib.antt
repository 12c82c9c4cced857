-- The definitions of this crate.
pub mod Hex
pub mod Field
pub mod Put
