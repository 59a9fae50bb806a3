pub mod Texts
pub mod Literals
pub mod Operators
pub mod Types
pub mod Codes
pub mod Serving
