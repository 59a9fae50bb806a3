pub mod Symbols
pub mod Terminals
