pub mod Passing
pub mod Tearing
pub mod Moving
pub mod Seeing
pub mod Naming
pub mod Counting
pub mod Telling
