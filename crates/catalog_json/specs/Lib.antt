pub mod Columns
pub mod Object
pub mod Outcome
pub mod Place
pub mod Walk
