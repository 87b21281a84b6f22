pub mod Groups
pub mod Gathered
pub mod Following
