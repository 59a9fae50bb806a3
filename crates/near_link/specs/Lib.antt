pub mod Faulty
pub mod Fitting
pub mod Near
pub mod Schedule
pub mod Steps
