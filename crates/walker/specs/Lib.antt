pub mod Asked
pub mod Binned
pub mod Judges
pub mod Track
pub mod Trail
pub mod Walked
