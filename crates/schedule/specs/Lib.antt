pub mod Stored
pub mod Rates
