pub mod Firsts
pub mod Taking
pub mod Sorting
pub mod Adding
pub mod Looping
pub mod Below
pub mod Nodes
pub mod Serving
