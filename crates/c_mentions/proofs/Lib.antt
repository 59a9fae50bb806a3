pub mod Measures
mod Tagged
mod Quoted
mod Numbered
