pub mod Words
pub mod IsCommand
pub mod Answers
pub mod Rounds
pub mod Program
