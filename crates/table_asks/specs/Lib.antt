pub mod Closing
pub mod Faults
pub mod Asking
pub mod Talking
pub mod Running
