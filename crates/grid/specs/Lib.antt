pub mod Listed
pub mod Points
