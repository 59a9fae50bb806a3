pub mod Places
pub mod Commands
pub mod Allowed
pub mod Histories
