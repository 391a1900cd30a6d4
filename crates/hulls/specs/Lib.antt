pub mod Rounds
pub mod Cover
