pub mod Bare
pub mod Deferred
