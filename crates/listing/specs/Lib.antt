pub mod Line
pub mod Bound
