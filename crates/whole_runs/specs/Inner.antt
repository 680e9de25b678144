-- What only contracts within the crate cite.
pub mod Serving
pub mod TakesFirst
pub mod Turns
