pub mod Added
pub mod Searching
pub mod Runs
