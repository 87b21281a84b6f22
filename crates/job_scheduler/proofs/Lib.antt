pub mod Looking
pub mod Opening
pub mod Standing
pub mod Finding
pub mod Turning
pub mod Stepping
pub mod Ending
pub mod Crewing
