-- What only contracts within the crate cite.
pub mod KeptOf
pub mod ReadsRange
pub mod Steps
pub mod Tried
