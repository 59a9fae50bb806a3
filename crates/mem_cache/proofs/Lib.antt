mod Keys
mod Keeping
