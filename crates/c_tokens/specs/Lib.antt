pub mod Identifiers
pub mod Units
