mod Unnumbered
pub mod Calling
mod Labeled
mod Passed
mod PassedLocals
mod Beside
pub mod Leaving
mod PassedParts
mod Forms
mod EndedBodies
mod BracedBlocks
mod Kept
mod Rowed
