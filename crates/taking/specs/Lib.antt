pub mod Ready
pub mod Taken
pub mod Taking
