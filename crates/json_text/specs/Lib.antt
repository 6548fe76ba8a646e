pub mod Bytes
pub mod Tree
pub mod Utf8
pub mod Grammar
pub mod Machine
