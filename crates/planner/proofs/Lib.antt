pub mod Adding
pub mod Steps
pub mod Sides
pub mod Told
pub mod Rooms
