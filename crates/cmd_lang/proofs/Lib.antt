pub mod Quits
