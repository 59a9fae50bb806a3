pub mod Numbers
pub mod Literals
pub mod Front
pub mod Lexing
