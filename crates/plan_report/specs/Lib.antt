pub mod PlansAsked
pub mod Sources
