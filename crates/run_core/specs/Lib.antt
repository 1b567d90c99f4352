pub mod Kept
pub mod StartState
