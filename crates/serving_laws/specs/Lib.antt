pub mod Plain
pub mod Left
pub mod Named
pub mod Evaluated
pub mod Texts
