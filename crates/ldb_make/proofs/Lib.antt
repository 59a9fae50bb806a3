pub mod Pieces
pub mod Drawn
