pub mod ByTurns
pub mod Exact
pub mod Scans
pub mod Stripping
pub mod Flats
pub mod Answers
