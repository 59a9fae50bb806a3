pub mod Mapped
pub mod Units
pub mod Acts
pub mod Acting
pub mod Lacking
