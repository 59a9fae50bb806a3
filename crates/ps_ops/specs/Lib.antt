pub mod Desk
pub mod Halts
pub mod Asking
pub mod Acting
