pub mod Reversed
pub mod Apart
pub mod Firsts
pub mod Names
