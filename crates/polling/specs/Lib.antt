pub mod Requests
pub mod Due
