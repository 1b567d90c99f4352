pub mod Ahead
pub mod DrawPlace
