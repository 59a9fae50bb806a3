pub mod Chain
pub mod Counting
