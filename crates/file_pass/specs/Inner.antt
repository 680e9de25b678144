-- What only contracts within the crate cite.
pub mod Noted
pub mod Looks
pub mod Settled
pub mod RowTaken
