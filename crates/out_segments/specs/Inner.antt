-- What only contracts within the crate cite.
pub mod AtOutput
pub mod Keeping
pub mod Settled
pub mod SegmentedLaws
pub mod IsStored
