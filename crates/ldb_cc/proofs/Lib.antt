pub mod Firsts
pub mod Counted
pub mod Parsed
pub mod Refused
pub mod Made
pub mod Lengths
