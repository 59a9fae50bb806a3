pub mod Meant
pub mod Planting
pub mod Ran
pub mod Told
pub mod There
pub mod Wrote
