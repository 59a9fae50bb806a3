pub mod Codec
pub mod Fit
pub mod Loaded
pub mod Placed
pub mod Sound
pub mod Step
