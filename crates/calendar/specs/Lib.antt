pub mod Cycle
pub mod Moments
