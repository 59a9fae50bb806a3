pub mod Fields
pub mod Placed
pub mod RoundTrip
pub mod Sound
