pub mod Blocks
pub mod OwnLines
pub mod Outcome
pub mod Laws
pub mod Grown
pub mod Faults
