pub mod Scope
pub mod Kept
pub mod Readings
pub mod Rules
