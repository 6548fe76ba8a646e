pub mod Digit
pub mod Lent
