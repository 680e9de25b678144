mod Entering
mod FolderLemmas
mod Lasting
pub mod Lists
mod Naming
mod Once
mod Reaching
mod Still
pub mod Worlds
