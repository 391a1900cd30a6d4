pub mod IsEar
pub mod Links
pub mod Actives
pub mod Corners
pub mod Steps
pub mod Starts
pub mod Picks
