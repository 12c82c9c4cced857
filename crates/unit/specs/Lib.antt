pub mod Changed
pub mod Values
pub mod Rows
pub mod Calls
pub mod Ticks
pub mod Request
pub mod Asked
