pub mod Beside
pub mod Columns
pub mod Pairs
pub mod Tree
