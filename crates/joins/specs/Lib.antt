pub mod Ring
pub mod Growing
