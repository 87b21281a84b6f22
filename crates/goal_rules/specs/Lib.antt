pub mod Answers
pub mod Meaning
pub mod WordRanks
pub mod EntryLaws
pub mod Grown
pub mod Explored
pub mod Known
