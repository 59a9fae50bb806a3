pub mod Meaning
pub mod WireMeaning
pub mod Layers
pub mod Walking
