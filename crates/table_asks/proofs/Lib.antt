mod Told
mod Settled
pub mod Fair
pub mod Framed
mod Spots
pub mod Looking
mod Named
pub mod Binding
pub mod Ran
pub mod Telling
