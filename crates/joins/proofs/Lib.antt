pub mod Round
pub mod Turns
pub mod Writing
pub mod Growing
