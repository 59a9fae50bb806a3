pub mod Exchanging
pub mod Reading
pub mod Resumptions
pub mod RunsCome
pub mod Sending
