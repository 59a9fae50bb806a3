pub mod Lists
pub mod Named
pub mod Uses
pub mod Placing
pub mod Image
