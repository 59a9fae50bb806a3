pub mod Appending
pub mod Characters
