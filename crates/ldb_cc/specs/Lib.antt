pub mod Sources
pub mod Scanning
pub mod Parsing
pub mod Table
pub mod Built
