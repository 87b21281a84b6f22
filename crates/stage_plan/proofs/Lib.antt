pub mod OtherJoins
pub mod OtherOptions
pub mod OtherProofs
pub mod Lists
pub mod Less
pub mod PlansAt
pub mod OneStaging
pub mod Taken
