pub mod Growing
pub mod Tokens
pub mod Kept
pub mod Reading
pub mod First
pub mod Numbers
pub mod Checks
