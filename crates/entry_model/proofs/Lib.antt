pub mod CopiedBytes
pub mod Data
pub mod Ends
pub mod Equality
pub mod Nesting
pub mod Places
pub mod RecordEquality
