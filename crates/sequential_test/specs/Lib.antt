pub mod Pools
pub mod Ranks
pub mod Rounds
