-- The definitions that the contracts of this crate cite.
pub mod Fields
pub mod Plan
pub mod Given
