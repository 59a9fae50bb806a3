pub mod Computed
pub mod WordByWord
