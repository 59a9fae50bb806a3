pub mod Texts
mod Growing
mod Making
mod Arms
mod Examples
mod Refusing
mod Keeping
mod Lines
mod Asked
