pub mod ByTurns
pub mod InFloats
pub mod Strips
pub mod Outlined
