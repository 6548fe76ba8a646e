pub mod Tables
pub mod Rows
pub mod Text
pub mod Literal
pub mod Start
