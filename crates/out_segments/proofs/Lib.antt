pub mod Tears
pub mod Joining
pub mod Outputs
pub mod Changing
pub mod Cuts
pub mod Ends
pub mod Writes
pub mod Segments
pub mod Settling
pub mod Keeps
mod MemFiles
mod MemContents
mod MemStoring
mod CrashLeaves
pub mod CrashCalls
pub mod MemSteps
mod CrashTearing
mod MemCrashing
