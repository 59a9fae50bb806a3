pub mod Fields
pub mod Patched
pub mod Placed
pub mod Words
