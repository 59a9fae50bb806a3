pub mod Computing
pub mod BareTable
pub mod PausedText
pub mod HazardMachine
pub mod Continuing
pub mod HazardSession
