-- What only contracts within the crate cite.
pub mod WithQuoted
