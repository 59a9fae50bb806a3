pub mod Changes
pub mod Shown
pub mod Rows
pub mod Implements
pub mod Targets
