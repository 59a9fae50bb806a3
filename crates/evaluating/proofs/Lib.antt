pub mod Keeping
pub mod OwnSteps
