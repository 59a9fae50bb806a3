pub mod Bytes
pub mod Keywords
pub mod Punctuators
pub mod Numbers
pub mod Literals
pub mod Grammar
pub mod Front
