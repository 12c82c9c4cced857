pub mod Reading
pub mod Refusals
pub mod ReadRefusals
pub mod Writing
