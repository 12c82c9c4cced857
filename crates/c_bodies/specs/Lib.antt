pub mod Bodies
pub mod Places
