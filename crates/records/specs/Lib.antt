pub mod Standing
pub mod Locating
pub mod Reading
