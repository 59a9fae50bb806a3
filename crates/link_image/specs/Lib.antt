pub mod Linked
pub mod Conditions
pub mod Links
pub mod Tables
