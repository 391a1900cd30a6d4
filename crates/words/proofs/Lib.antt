pub mod Copies
pub mod Nans
pub mod Words
