pub mod PrintLemmas
pub mod Fronts
pub mod StreamLemmas
pub mod Courses
