-- What only contracts within the crate cite.
pub mod Compared
pub mod Taken
pub mod Whole
