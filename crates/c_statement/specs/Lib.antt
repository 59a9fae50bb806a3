pub mod Grammar
pub mod Parts
pub mod Tokens
pub mod Machine
pub mod Laws
