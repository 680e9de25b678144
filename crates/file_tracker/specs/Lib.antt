pub mod Limits
pub mod Fronts
pub mod Places
pub mod Order
