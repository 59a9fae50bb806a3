pub mod Operators
pub mod Slots
pub mod Begin
pub mod WellFormed
