pub mod Booked
pub mod Gathered
pub mod Index
pub mod Laws
pub mod Placed
pub mod Union
