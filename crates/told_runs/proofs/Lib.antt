pub mod Told
pub mod Short
