pub mod Places
pub mod Strings
pub mod Skip
pub mod Numbers
pub mod Enums
