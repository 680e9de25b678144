pub mod Asked
pub mod KeepsOrder
pub mod Rests
pub mod RowHolds
pub mod Verdicts
pub mod Inner
