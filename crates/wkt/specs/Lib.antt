pub mod Reads
pub mod Promise
