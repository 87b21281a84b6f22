pub mod Places
pub mod Preorder
pub mod Nodes
pub mod Kids
pub mod Outcome
pub mod Passes
