mod Measures
mod Named
