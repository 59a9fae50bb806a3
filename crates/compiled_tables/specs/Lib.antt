pub mod Conditions
pub mod Weights
