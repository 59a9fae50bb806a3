pub mod Told
pub mod Stepping
