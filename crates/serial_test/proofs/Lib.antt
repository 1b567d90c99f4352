pub mod Powers
pub mod Ranking
pub mod Settings
