pub mod Agrees
pub mod Run
pub mod Untouched
pub mod Laws
