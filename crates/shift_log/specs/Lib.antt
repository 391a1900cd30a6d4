pub mod Promise
pub mod Playing
