mod Follow
mod Weight
mod Operators
mod Match
mod Values
mod Evaluations
mod Rounds
mod Calls
mod Executions
mod Step
mod Whole
mod Temps
mod TempsOfStatements
mod Lengths
mod Emitted
mod Arms
mod Stops
mod Turns
mod Forms
mod Pairs
mod Begun
mod Codes
mod Starting
mod Above
mod Few
pub mod Placed
pub mod NodesOfStatements
