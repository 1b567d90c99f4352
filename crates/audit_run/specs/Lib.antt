pub mod Alike
pub mod JudgeSets
pub mod Stages
