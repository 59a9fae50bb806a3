pub mod Parts
pub mod Evaluates
pub mod Assignments
