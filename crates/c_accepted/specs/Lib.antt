pub mod Sources
pub mod Grown
pub mod Reads
