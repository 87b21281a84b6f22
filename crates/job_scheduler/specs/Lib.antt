pub mod Workers
pub mod Opening
pub mod Claims
pub mod Steps
pub mod Crews
