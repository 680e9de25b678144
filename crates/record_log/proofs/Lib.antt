pub mod Fronts
pub mod Walks
pub mod Determined
pub mod Logs
pub mod LogLaws
pub mod Appending
pub mod Rewritten
