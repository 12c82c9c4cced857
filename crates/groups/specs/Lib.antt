pub mod Placed
pub mod Exact
