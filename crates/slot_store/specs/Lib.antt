pub mod OnlyRead
pub mod Counted
pub mod Synced
pub mod Frame
pub mod ChosenSlot
pub mod Committed
pub mod CommitCause
pub mod Head
