pub mod Meeting
pub mod Rooms
pub mod Telling
pub mod Asking
pub mod Beside
pub mod Pointing
pub mod Words
pub mod Readying
pub mod Starting
pub mod Leaving
pub mod Registering
pub mod Regs
pub mod Resumed
pub mod Behind
pub mod Answering
pub mod AskingOne
pub mod AskingBoth
pub mod PuttingBack
mod GivenUp
pub mod AskingText
mod Wanting
mod Counting
mod Storing
mod Looking
mod Looked
mod Tallying
mod Ending
