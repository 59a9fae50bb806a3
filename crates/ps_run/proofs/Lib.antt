pub mod Readings
pub mod Going
pub mod Reaching
pub mod Tops
pub mod Apart
