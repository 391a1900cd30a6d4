pub mod Poly
pub mod Reify
pub mod Parts
pub mod Lists
pub mod Bits
pub mod Sums
pub mod Rings
