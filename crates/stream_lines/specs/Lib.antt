pub mod Limits
pub mod Prints
pub mod StreamLines
pub mod Streams
pub mod Causes
pub mod Inner
