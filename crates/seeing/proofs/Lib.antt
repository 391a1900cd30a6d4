pub mod Exact
pub mod Scans
