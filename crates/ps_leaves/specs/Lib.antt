pub mod Leaves
pub mod Forms
