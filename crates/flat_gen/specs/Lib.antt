pub mod Layout
pub mod Movers
pub mod Codes
pub mod Words
pub mod Stack
pub mod Locations
pub mod Stands
