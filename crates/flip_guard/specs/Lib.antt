pub mod Judging
pub mod Limiting
