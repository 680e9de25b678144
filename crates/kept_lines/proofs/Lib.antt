pub mod Cutting
pub mod Quotes
pub mod Telling
pub mod Texts
pub mod Times
