pub mod Steps
pub mod Places
pub mod KeptPlans
pub mod Natives
pub mod BestSoFar
pub mod Outcome
