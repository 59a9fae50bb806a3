mod Asked
mod Begun
mod Changed
mod Chosen
mod Listed
mod Rows
mod Ps
mod Ran
mod Operands
pub mod Unstored
mod Lacking
mod Typing
mod Ending
mod Placing
mod Showing
mod Printed
mod Scoped
mod Framed
pub mod Named
