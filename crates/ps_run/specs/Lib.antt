pub mod Scan
pub mod Reads
pub mod Step
pub mod Runs
pub mod Reaching
pub mod Passes
