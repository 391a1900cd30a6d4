pub mod Later
pub mod Reading
pub mod Searching
