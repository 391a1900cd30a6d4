pub mod Neighbours
pub mod Writes
pub mod Clips
pub mod Entry
