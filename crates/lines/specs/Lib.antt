pub mod Shown
pub mod Taken
