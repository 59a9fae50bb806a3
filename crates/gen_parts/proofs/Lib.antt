pub mod Computed
pub mod Given
pub mod Links
pub mod Starts
