pub mod CountedTurns
pub mod Stretches
