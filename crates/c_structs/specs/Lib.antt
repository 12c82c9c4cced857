pub mod Held
pub mod Handing
