pub mod Steps
pub mod Mips
pub mod Sparc
pub mod Runs
