pub mod Steps
pub mod ProbingLemmas
