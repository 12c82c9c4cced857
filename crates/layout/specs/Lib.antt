-- The definitions that the contracts of this crate cite.
pub mod Places
pub mod Records
pub mod Walk
pub mod Dates
