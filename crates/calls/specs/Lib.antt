pub mod Step
pub mod Stepping
