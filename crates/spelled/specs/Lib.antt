pub mod Stretch
pub mod Leaves
pub mod Bytes
pub mod Number
pub mod Names
pub mod Octets
