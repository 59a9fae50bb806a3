mod Holding
mod Plants
