pub mod Shapes
pub mod Sessions
