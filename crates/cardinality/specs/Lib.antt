pub mod Factor
pub mod Rows
