pub mod Pushed
pub mod Heights
pub mod Beginnings
pub mod Steps
pub mod Complete
pub mod Reach
pub mod Sound
