pub mod Cuts
pub mod LineTokens
pub mod Trim
pub mod EntryText
