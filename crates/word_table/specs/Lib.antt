pub mod Probing
pub mod Table
