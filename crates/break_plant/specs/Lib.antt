pub mod Planted
