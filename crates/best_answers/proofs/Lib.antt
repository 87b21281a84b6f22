pub mod Roots
pub mod OneChoice
pub mod Pairs
pub mod OneBest
pub mod Least
pub mod Below
pub mod Single
pub mod Asked
