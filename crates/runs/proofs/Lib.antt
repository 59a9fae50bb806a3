pub mod Once
pub mod Simulate
