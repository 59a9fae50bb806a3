pub mod Registers
pub mod Callers
