-- What only contracts within the crate cite.
pub mod Applied
pub mod WorkView
