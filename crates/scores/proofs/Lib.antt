pub mod Below
pub mod Few
mod Nearest
pub mod Ranked
pub mod Replacing
pub mod Same
pub mod Shares
