pub mod Again
pub mod Exports
