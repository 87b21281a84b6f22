pub mod Nodes
pub mod Answers
pub mod Best
pub mod Laws
