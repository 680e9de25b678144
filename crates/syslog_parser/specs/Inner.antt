-- What only contracts within the crate cite.
pub mod Reads
pub mod Senders
