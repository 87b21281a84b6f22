pub mod Numbers
pub mod Idle
