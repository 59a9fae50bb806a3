pub mod Standing
pub mod Resuming
pub mod Stepping
pub mod Asking
pub mod Sessions
pub mod Telling
pub mod Storing
