pub mod Literals
pub mod Tags
