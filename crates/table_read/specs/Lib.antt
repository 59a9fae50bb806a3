pub mod Saved
pub mod Reads
