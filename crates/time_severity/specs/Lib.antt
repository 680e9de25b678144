pub mod Gradings
pub mod Outcome
pub mod Presets
pub mod Rules
pub mod Spelled
pub mod Times
