pub mod Class
pub mod Outline
