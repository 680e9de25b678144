-- What only contracts within the crate cite.
pub mod FoundAt
pub mod Entered
pub mod Finished
pub mod Gained
pub mod ListsSome
pub mod Reached
