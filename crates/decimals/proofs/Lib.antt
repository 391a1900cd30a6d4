pub mod Prefixes
pub mod Digits
pub mod Numbers
pub mod Floats
pub mod Texts
pub mod NumberTexts
