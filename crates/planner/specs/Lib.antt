pub mod Settings
pub mod Columns
pub mod Nodes
pub mod Faults
pub mod Planned
pub mod Adding
