pub mod Structs
pub mod Opened
pub mod Laying
pub mod Completing
pub mod Specified
pub mod Nested
pub mod Specifies
