pub mod Blocks
pub mod Fitting
pub mod Flags
pub mod ChainState
pub mod Judged
pub mod Nearby
pub mod OpenPairs
