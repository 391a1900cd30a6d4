pub mod Dots
pub mod Ways
pub mod Shown
pub mod Walks
pub mod Words
pub mod Spots
pub mod Asked
