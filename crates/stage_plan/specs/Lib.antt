pub mod Stages
pub mod StagedRuns
pub mod Laws
pub mod SoFar
