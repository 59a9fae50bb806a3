pub mod Joining
pub mod Coming
