-- What only contracts within the crate cite.
pub mod WholeFront
pub mod HasTaken
