pub mod Samples
pub mod Edges
pub mod Responses
pub mod Years
