pub mod OffRules
