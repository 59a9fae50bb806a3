pub mod Delayed
pub mod Found
pub mod Stops
