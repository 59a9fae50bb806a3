pub mod Faulty
pub mod TypesTold
pub mod Placing
pub mod Tables
