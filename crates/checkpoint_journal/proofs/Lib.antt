pub mod SaysLemmas
pub mod WrittenLemmas
pub mod JournalLaws
pub mod ReadingLemmas
pub mod PutLemmas
pub mod RowLemmas
