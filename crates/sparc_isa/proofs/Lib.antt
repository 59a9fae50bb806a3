pub mod Flush
pub mod Placed
pub mod RoundTrip
pub mod Sound
