pub mod Lists
pub mod Crews
pub mod Moves
pub mod Lookups
pub mod Running
pub mod Placing
pub mod Passes
