pub mod Added
pub mod Columns
pub mod Lists
pub mod Names
