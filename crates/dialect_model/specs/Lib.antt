pub mod Dial
pub mod Acting
pub mod Operators
pub mod Forcing
pub mod Operating
pub mod TableUse
pub mod Running
pub mod Near
