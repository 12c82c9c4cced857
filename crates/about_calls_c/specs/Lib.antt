pub mod Lists
pub mod Exports
pub mod FromC
pub mod ApartFromC
