pub mod Taken
pub mod Calling
pub mod Coming
