pub mod Digits
pub mod Numbers
pub mod Remainder
pub mod Shift
pub mod Pattern
pub mod Length
