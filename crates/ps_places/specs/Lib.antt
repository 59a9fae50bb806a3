pub mod Lacks
pub mod Places
pub mod Accesses
