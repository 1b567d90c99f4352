pub mod Faults
pub mod Hashed
pub mod Laws
pub mod Written
