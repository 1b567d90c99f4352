pub mod Ended
pub mod Lines
pub mod Outcomes
pub mod Parts
pub mod Pieces
pub mod AddedText
