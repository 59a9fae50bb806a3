mod Applied
pub mod Hiding
mod FirstNumber
mod Parametric
pub mod Rowing
mod Scopes
pub mod Thens
mod Unbounded
pub mod Sizes
pub mod Items
