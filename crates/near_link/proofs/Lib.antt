pub mod FittingNubs
pub mod Queues
pub mod Schedules
pub mod Waits
pub mod Worlds
