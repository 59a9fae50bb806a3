pub mod Store
pub mod Frames
pub mod Assigned
