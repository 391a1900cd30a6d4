pub mod Ways
pub mod Edges
pub mod Positions
