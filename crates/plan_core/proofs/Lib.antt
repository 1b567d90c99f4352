pub mod Bounded
pub mod Freezing
pub mod Judged
pub mod Majorities
pub mod Moved
pub mod Splitting
pub mod Voted
pub mod Started
