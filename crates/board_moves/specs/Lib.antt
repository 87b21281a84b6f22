pub mod Words
pub mod Moves
pub mod Turns
pub mod Collects
pub mod Passes
pub mod Counts
pub mod Seats
