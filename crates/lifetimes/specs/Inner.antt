-- What only contracts within the crate cite.
pub mod Answered
pub mod Past
pub mod Life
