pub mod FirstLine
pub mod Keeping
