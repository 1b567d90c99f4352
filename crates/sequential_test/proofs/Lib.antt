pub mod Finals
pub mod Ranks
pub mod Reaching
pub mod Rounding
pub mod Deciding
pub mod Slicing
