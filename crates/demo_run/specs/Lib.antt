pub mod Moves
pub mod Script
pub mod Steps
pub mod Shown
pub mod Inner
