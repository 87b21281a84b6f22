pub mod Text
pub mod Groups
pub mod Gathered
pub mod Lines
pub mod Found
