mod Far
mod Counts
mod Looks
mod Chains
