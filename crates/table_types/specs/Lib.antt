pub mod Offsets
pub mod Views
