pub mod Expressions
pub mod Statements
pub mod Bounds
pub mod Tokens
pub mod Correct
pub mod Emission
pub mod Rows
