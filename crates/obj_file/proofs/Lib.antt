pub mod Cutting
pub mod Written
