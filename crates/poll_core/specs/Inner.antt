-- What only contracts within the crate cite.
pub mod Begun
pub mod Passed
pub mod Kept
