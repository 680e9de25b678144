-- What only contracts within the crate cite.
pub mod BrokenWords
pub mod IsReadByDefault
pub mod Reads
