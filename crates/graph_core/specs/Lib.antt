pub mod Behavior
pub mod Wiring
pub mod Closing
pub mod Traces
pub mod Runs
pub mod Faults
pub mod Inner
