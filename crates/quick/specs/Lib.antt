pub mod Stood
pub mod Tape
pub mod Taken
pub mod Emit
pub mod Replied
