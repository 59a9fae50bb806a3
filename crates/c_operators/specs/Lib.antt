pub mod Bits
pub mod Arithmetic
