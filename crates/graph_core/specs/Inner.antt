-- What only contracts within the crate cite.
pub mod Walk
pub mod Reach
