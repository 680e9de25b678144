-- What only contracts within the crate cite.
pub mod Asked
pub mod Common
pub mod Strings
