pub mod Growing
pub mod Ranked
pub mod Falling
pub mod OneAnswer
pub mod KnownWords
pub mod Exploring
