pub mod Readings
pub mod Meanings
pub mod Keeping
pub mod Rules
