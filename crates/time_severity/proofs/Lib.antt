pub mod Least
pub mod LeastIs
pub mod Spellings
pub mod Told
