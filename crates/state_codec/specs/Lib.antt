pub mod Limits
pub mod Spelling
pub mod Rules
pub mod Reading
pub mod Gives
pub mod DeadEnds
pub mod Reads
