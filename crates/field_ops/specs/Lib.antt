pub mod Faults
pub mod Kept
pub mod Outcome
pub mod Roots
pub mod Rows
pub mod Inner
