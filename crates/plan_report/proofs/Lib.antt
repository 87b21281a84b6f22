pub mod Rooted
pub mod PlansAsked
pub mod Chosen
