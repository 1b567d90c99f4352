pub mod Input
pub mod Outside
pub mod Splits
pub mod Valued
