pub mod Canonical
pub mod Unplaced
