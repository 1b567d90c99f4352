pub mod CurrentLine
pub mod EarlyStops
pub mod Permitted
pub mod Plain
pub mod Splitting
pub mod Strides
pub mod Reporting
mod Crossing
mod Desked
mod Finished
mod Placing
mod Reported
mod Rounds
mod Saved
mod Testing
mod Turning
