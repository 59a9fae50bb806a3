mod Opening
mod Laid
mod Ended
mod Within
pub mod NamesAdded
