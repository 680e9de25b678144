mod TreePaths
mod TreePlaces
mod TreeStoring
mod TreeRooms
mod TreePlanning
mod TreeScheduling
mod TreePacing
mod TreeFails
mod TreeMoves
mod TreeHanding
pub mod TreeTelling
mod TreeCutting
mod TreeFolders
mod TreeListings
mod StreamTaking
mod DiskCalls
