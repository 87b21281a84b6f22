pub mod FirstAndLast
mod Walks
pub mod Lists
pub mod Trees
pub mod OneTree
pub mod Validity
mod Outcomes
mod OneOutcome
