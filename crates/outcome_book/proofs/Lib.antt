mod Adding
mod Same
mod Tables
mod Unions
pub mod AddingUp
pub mod ById
pub mod Indexed
pub mod Tallying
pub mod Finding
