pub mod Known
pub mod LastPlan
pub mod Votes
