pub mod Marking
pub mod Stepping
pub mod Complete
