pub mod Cells
pub mod Freezing
pub mod Moves
pub mod Steps
pub mod Tallying
