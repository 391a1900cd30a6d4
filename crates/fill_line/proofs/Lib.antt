pub mod Cutting
pub mod Filling
pub mod Entry
