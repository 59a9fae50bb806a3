pub mod Lines
pub mod Refusals
pub mod Doing
pub mod Frames
pub mod Raw
pub mod Breaks
pub mod Printing
