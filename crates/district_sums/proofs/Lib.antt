pub mod Counting
pub mod Summing
pub mod Moving
pub mod Shifted
pub mod Walking
pub mod Standing
pub mod Measured
