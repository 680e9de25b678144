pub mod CutLemmas
pub mod BoundLemmas
pub mod LineLemmas
pub mod TrimLemmas
pub mod EntryLemmas
