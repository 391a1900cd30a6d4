pub mod Outputs
pub mod Merging
pub mod Entry
