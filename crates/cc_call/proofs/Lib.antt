pub mod Fronts
pub mod Fronted
pub mod Named
pub mod ReadAll
pub mod Written
pub mod Outcomes
