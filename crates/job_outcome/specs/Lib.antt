pub mod Outcomes
pub mod Searched
