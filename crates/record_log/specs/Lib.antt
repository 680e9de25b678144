pub mod Records
pub mod LogOf
pub mod Appended
