-- What only contracts within the crate cite.
pub mod FitsBoth
pub mod Front
pub mod Leads
pub mod Reader
pub mod TakesOne
pub mod Walked
