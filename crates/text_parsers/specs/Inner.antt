-- What only contracts within the crate cite.
pub mod Passed
pub mod Plain
pub mod FirstPart
pub mod FieldSlices
pub mod Known
