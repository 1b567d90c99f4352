pub mod Accepted
pub mod Asking
pub mod Finding
pub mod ValidValues
pub mod Numbers
pub mod Order
pub mod Pairing
pub mod Parting
pub mod Powers
pub mod Prefixes
pub mod Ranges
pub mod Reading
pub mod Spelling
pub mod Unnamed
mod Lines
mod Questioning
