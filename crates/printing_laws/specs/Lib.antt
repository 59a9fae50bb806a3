pub mod Lookups
pub mod Dialect
pub mod Lies
pub mod Stays
