pub mod Initials
pub mod Begins
pub mod Spots
pub mod Starts
pub mod Valued
pub mod Filled
