pub mod Lines
pub mod Made
pub mod OwnLines
pub mod Split
