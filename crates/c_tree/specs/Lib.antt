pub mod Rows
pub mod Types
pub mod Layout
pub mod Listed
pub mod Ordered
pub mod Points
