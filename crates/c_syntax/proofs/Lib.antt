pub mod Fed
pub mod Keeping
pub mod Complete
pub mod Sound
pub mod Exact
pub mod Laws
