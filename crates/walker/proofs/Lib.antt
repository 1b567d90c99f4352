pub mod Asking
pub mod Binning
pub mod Crossing
pub mod Departing
pub mod Finding
pub mod Flushing
pub mod Stepping
pub mod Still
