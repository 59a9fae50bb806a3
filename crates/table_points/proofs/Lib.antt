pub mod Looks
mod Gathering
mod Naming
mod Adding
