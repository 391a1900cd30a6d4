pub mod Ears
pub mod Vertices
