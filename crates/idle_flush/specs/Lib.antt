pub mod Looked
pub mod Rests
