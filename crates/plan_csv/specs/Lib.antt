pub mod Fit
pub mod JobStages
pub mod Named
pub mod Refusals
pub mod Shared
pub mod Stages
