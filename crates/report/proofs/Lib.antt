mod NoteLines
pub mod Appended
pub mod Changes
pub mod Escapes
pub mod Heads
pub mod Letting
pub mod Limits
pub mod Longest
pub mod Pieces
mod Powers
pub mod Ranked
pub mod Regions
pub mod Sorted
pub mod Wholly
pub mod Widths
pub mod Written
