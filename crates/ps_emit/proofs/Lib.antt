pub mod Followed
pub mod Chains
pub mod Points
pub mod Lengths
pub mod Items
