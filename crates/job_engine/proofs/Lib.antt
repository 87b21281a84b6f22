pub mod Wider
pub mod Closing
pub mod Ending
pub mod Shown
