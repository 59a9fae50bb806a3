pub mod Files
pub mod Programs
pub mod Made
pub mod Standing
pub mod Progress
pub mod Walked
pub mod Looked
