pub mod Digests
pub mod Numbers
pub mod Members
pub mod Depths
pub mod Leaves
pub mod Kept
